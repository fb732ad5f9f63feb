-- What the read of a supply leaves, by the places where it stands in its input and its sizes.
use Rattle.std.proofs.Common.{◌≡◌, ◌<◌, ◌≤◌, ℕ, ◌+◌, min, List, [], ◌++◌, length, take, drop, refl, ap, ◌∙◌, arith, length-append, length-drop, length-take-le, Some}
use Rattle.std.proofs.lemmas.List.{drop-drop, drop_all, take_all, take-append-drop}
use Rattle.std.proofs.lemmas.Grind.{common_steps}
use Rattle.std.proofs.Math.Seq.{take-add, take-append_seam}
use Rattle.rack_outside.specs.Supply.{Supply, unread, moved_on}
use Rattle.rack_outside.specs.Source.{Gives}
use Rattle.rack_outside.specs.declared.source.SourceRead.TheVariants.{Bytes, End}

-- a supply by its places
abbrev pub supply_at : List ℕ → List ℕ → ℕ → ℕ → Supply
supply_at input cuts given pieces =
    record { input = input; given = take given input; cuts = drop pieces cuts }

-- one size further, or still behind the last
pub drop_one_more : (cuts : List ℕ) (pieces : ℕ) → drop (min (pieces + 1) (length cuts)) cuts ≡ drop 1 (drop pieces cuts)
drop_one_more cuts pieces =
    let both = drop-drop 1 pieces cuts in
    let past : length cuts ≤ pieces + 1 → drop (pieces + 1) cuts ≡ [] = drop_all (pieces + 1) cuts in
    let end : drop (length cuts) cuts ≡ [] = drop_all (length cuts) cuts (omega arith) in
    grind (arith, common_steps)

pub unread_at : (input cuts : List ℕ) (given pieces : ℕ) → given ≤ length input → unread (supply_at input cuts given pieces) ≡ drop given input
unread_at input cuts given pieces fits = rw (length-take-le given input fits) refl

pub moved_on_at : (input cuts : List ℕ) (given pieces n : ℕ) → given ≤ length input
    → supply_at input cuts (given + n) (min (pieces + 1) (length cuts)) ≡ moved_on n (supply_at input cuts given pieces)
moved_on_at input cuts given pieces n fits =
    rw (length-take-le given input fits) (rw (take-add given n input, drop_one_more cuts pieces) refl)

-- a piece of n bytes, copied to the front of the room, is the next of the input
pub gives_at : (input room copied : List ℕ) (given n : ℕ) → 0 < n → n ≤ length room → given + n ≤ length input → copied ≡ take n (drop given input)
    → Gives (Bytes n) (Some input) (Some (take given input)) (Some (take (given + n) input)) (copied ++ drop n room)
gives_at input room copied given n some fits within is =
    let many : length copied ≡ n = ap length is ∙ length-take-le n (drop given input) (omega (arith, length-drop given input)) in
    let front : take n (copied ++ drop n room) ≡ copied = rw (← many) (take-append_seam copied (drop (length copied) room)) in
    let sized : n ≤ length (copied ++ drop n room) = omega (arith, length-append copied (drop n room)) in
    let seam = take-add given n input in
    (some, sized, cc, (λ xs ys e d. (drop (given + n) input, let whole = take-append-drop (given + n) input in cc)))

-- the end of the input
pub ends_at : (input : List ℕ) (given : ℕ) (room : List ℕ) → length input ≤ given
    → Gives End (Some input) (Some (take given input)) (Some (take given input)) room
ends_at input given room all = (refl, λ xs ys e d. let whole = take_all given input all in cc)
