-- A line of words, parted by one space each, says what its words say.
use Rattle.std.proofs.Common.{◌≡◌, ℕ, suc, ◌+◌, ◌<◌, ◌≤◌, Bool, true, false, List, [], ◌∷◌, ◌++◌, length, refl, sym, ap, ◌∙◌, length-append, append-nil, arith}
use Rattle.std.specs.Prelude.{◌&&◌, ◌==◌, nat_le, if◌then◌else◌, ⊤, codes, bytes_eq}
use Rattle.std.specs.List.{list_all}
use Rattle.std.proofs.lemmas.Bool.{leb-true, le-leb, ne_eqb}
use Rattle.std.proofs.lemmas.Slice.Eq.{bytes_eq-Decides}
use Rattle.stack_file.specs.Canon.{spaced}
use Rattle.stack_file.specs.Lines.{before_first, parted, without_empty, words, is_printable, is_clean, unindented}
use Rattle.stack_file.specs.Said.{Said, CascadeLine, EndLine, Breaks, said, said_by_words, verb_line, use_line, map_line, run_line, bare_line}
use Rattle.stack_file.proofs.EscapeLemmas.{AllVisible, IsWord}
use Rattle.stack_file.proofs.LineLemmas.{words_unindented}

both : (a b : Bool) → a && b ≡ true → (a ≡ true) × (b ≡ true)
both true b e = (refl, e)
both false b e = cc e

abbrev pub AllWords : List (List ℕ) → Type 0
AllWords [] = ⊤
AllWords (w ∷ ws) = IsWord w × AllWords ws

no_space : (b : ℕ) → 33 ≤ b → b == 32 ≡ false
no_space b h = ne_eqb b 32 (λ e. absurd (omega (arith, h, e)))

part_end : (v : List ℕ) → AllVisible v → parted v ≡ v ∷ []
part_end [] h = refl
part_end (b ∷ v) h =
    ap (λ s. if s then [] ∷ parted v else before_first b (parted v)) (no_space b h.0.0) ∙ ap (λ ps. before_first b ps) (part_end v h.1)

part_space : (v rest : List ℕ) → AllVisible v → parted (v ++ (32 ∷ rest)) ≡ v ∷ parted rest
part_space [] rest h = refl
part_space (b ∷ v) rest h =
    ap (λ s. if s then [] ∷ parted (v ++ (32 ∷ rest)) else before_first b (parted (v ++ (32 ∷ rest)))) (no_space b h.0.0) ∙ ap (λ ps. before_first b ps) (part_space v rest h.1)

part_words : (verb : List ℕ) (ws : List (List ℕ)) → AllVisible verb → AllWords ws → parted (verb ++ spaced ws) ≡ verb ∷ ws
part_words verb [] h k = ap (λ t. parted t) (append-nil verb) ∙ part_end verb h
part_words verb (w ∷ ws) h k = part_space verb (w ++ spaced ws) h ∙ ap (λ ps. verb ∷ ps) (part_words w ws (k.0.visible) k.1)

keep_word : (w : List ℕ) (ws : List (List ℕ)) → 0 < length w → without_empty (w ∷ ws) ≡ w ∷ without_empty ws
keep_word [] ws h = absurd (omega (arith, h))
keep_word (b ∷ w) ws h = refl

keep_words : (ws : List (List ℕ)) → AllWords ws → without_empty ws ≡ ws
keep_words [] h = refl
keep_words (w ∷ ws) h = keep_word w ws h.0.some ∙ ap (λ vs. w ∷ vs) (keep_words ws h.1)

printed_visible : (v : List ℕ) → AllVisible v → list_all is_printable v ≡ true
printed_visible [] h = refl
printed_visible (b ∷ v) h =
    let low = h.0.0 in
    let high = h.0.1 in
    ap (λ x. (x && nat_le b 126) && list_all is_printable v) (le-leb 32 b (omega (arith, low)))
    ∙ ap (λ x. x && list_all is_printable v) (le-leb b 126 high)
    ∙ printed_visible v h.1

printed_append : (xs ys : List ℕ) → list_all is_printable xs ≡ true → list_all is_printable ys ≡ true → list_all is_printable (xs ++ ys) ≡ true
printed_append [] ys h k = k
printed_append (x ∷ xs) ys h k =
    let parts = both (is_printable x) (list_all is_printable xs) h in
    ap (λ b. b && list_all is_printable (xs ++ ys)) parts.0 ∙ printed_append xs ys parts.1 k

printed_spaced : (ws : List (List ℕ)) → AllWords ws → list_all is_printable (spaced ws) ≡ true
printed_spaced [] h = refl
printed_spaced (w ∷ ws) h = printed_append w (spaced ws) (printed_visible w (h.0.visible)) (printed_spaced ws h.1)

unindented_word : (verb rest : List ℕ) → IsWord verb → unindented (verb ++ rest) ≡ verb ++ rest
unindented_word [] rest h = absurd (omega (arith, h.some))
unindented_word (b ∷ verb) rest h = ap (λ s. if s then unindented (verb ++ rest) else b ∷ (verb ++ rest)) (no_space b (h.visible.0.0))

-- what a line of words says
pub said_words : (verb : List ℕ) (ws : List (List ℕ)) → IsWord verb → AllWords ws → length (verb ++ spaced ws) ≤ 4096 → said (verb ++ spaced ws) ≡ said_by_words (verb ∷ ws)
said_words verb ws h k size =
    let text : List ℕ = verb ++ spaced ws in
    ap (λ b. if b && nat_le (length (unindented (verb ++ spaced ws))) 4096 then said_by_words (words (verb ++ spaced ws)) else Breaks 1) (printed_append verb (spaced ws) (printed_visible verb (h.visible)) (printed_spaced ws k))
    ∙ ap (λ t. if nat_le (length t) 4096 then said_by_words (words (verb ++ spaced ws)) else Breaks 1) (unindented_word verb (spaced ws) h)
    ∙ ap (λ b. if b then said_by_words (words (verb ++ spaced ws)) else Breaks 1) (le-leb (length (verb ++ spaced ws)) 4096 size)
    ∙ ap (λ ps. said_by_words (without_empty ps)) (part_words verb ws (h.visible) k)
    ∙ ap (λ vs. said_by_words vs) (keep_words (verb ∷ ws) (h, k))

-- the bytes of words, with a space before each
abbrev pub total : List (List ℕ) → ℕ
total [] = 0
total (w ∷ ws) = suc (length w) + total ws

pub spaced_size : (ws : List (List ℕ)) → length (spaced ws) ≡ total ws
spaced_size [] = refl
spaced_size (w ∷ ws) = let more = spaced_size ws in omega (arith, more, length-append w (spaced ws))

first_total : (b : ℕ) (ps : List (List ℕ)) → 0 < length ps → total (before_first b ps) ≡ suc (total ps)
first_total b [] h = absurd (omega (arith, h))
first_total b (p ∷ ps) h = omega arith

first_some : (b : ℕ) (ps : List (List ℕ)) → 0 < length (before_first b ps)
first_some b [] = omega arith
first_some b (p ∷ ps) = omega arith

parted_some : (line : List ℕ) → 0 < length (parted line)
parted_some [] = omega arith
parted_some (b ∷ line) = by_space (b == 32)
  where
    by_space : (s : Bool) → 0 < length (if s then [] ∷ parted line else before_first b (parted line))
    by_space true = omega arith
    by_space false = first_some b (parted line)

parted_total : (line : List ℕ) → total (parted line) ≡ suc (length line)
parted_total [] = refl
parted_total (b ∷ line) = by_space (b == 32) (parted_total line)
  where
    by_space : (s : Bool) → total (parted line) ≡ suc (length line) → total (if s then [] ∷ parted line else before_first b (parted line)) ≡ suc (suc (length line))
    by_space true e = omega (arith, e)
    by_space false e = first_total b (parted line) (parted_some line) ∙ ap (λ n. suc n) e

full_total : (ps : List (List ℕ)) → total (without_empty ps) ≤ total ps
full_total [] = omega arith
full_total ([] ∷ ps) = let more = full_total ps in omega (arith, more)
full_total ((b ∷ p) ∷ ps) = let more = full_total ps in omega (arith, more)

words_total : (line : List ℕ) → total (words line) ≤ suc (length (unindented line))
words_total line =
    let full = full_total (parted (unindented line)) in
    let all = parted_total (unindented line) in
    let same : total (words (unindented line)) ≡ total (words line) = ap (λ ws. total ws) (words_unindented line) in
    omega (arith, full, all, same)

-- what a line says is what its words say, which aren't too long
pub record ByWords (line : List ℕ) (what : Said) : Type 0 where
  pub size : total (words line) ≤ 4097
  pub says : said_by_words (words line) ≡ what

pub by_words : (line : List ℕ) (what : Said) → (what ≡ Breaks 1 → ⊥) → said line ≡ what → ByWords line what
by_words line what other e = by_clean (is_clean line) refl e
  where
    by_clean : (c : Bool) → is_clean line ≡ c → (if c then said_by_words (words line) else Breaks 1) ≡ what → ByWords line what
    by_clean true is f =
        let parts = both (list_all is_printable line) (nat_le (length (unindented line)) 4096) is in
        let size = leb-true (length (unindented line)) 4096 parts.1 in
        let all = words_total line in
        record { size = omega (arith, size, all); says = f }
    by_clean false is f = absurd (other (sym f))

-- by the first word
pub data Verb (verb : List ℕ) (arguments : List (List ℕ)) (what : Said) : Type 0 where
  used : verb ≡ codes "use" → use_line arguments ≡ what → Verb verb arguments what
  mapped : verb ≡ codes "map" → map_line arguments ≡ what → Verb verb arguments what
  ended : bare_line EndLine arguments ≡ what → Verb verb arguments what
  ran : verb ≡ codes "run" → run_line arguments ≡ what → Verb verb arguments what
  tried : bare_line CascadeLine arguments ≡ what → Verb verb arguments what
  unknown : Breaks 2 ≡ what → Verb verb arguments what

same_text : (xs ys : List ℕ) → bytes_eq xs ys ≡ true → xs ≡ ys
same_text xs ys e = (bytes_eq-Decides xs ys).0 e

pub verb_cases : (verb : List ℕ) (arguments : List (List ℕ)) (what : Said) → verb_line verb arguments ≡ what → Verb verb arguments what
unfolding verb_line
verb_cases verb arguments what e = by_use (bytes_eq verb (codes "use")) refl e
  where
    by_cascade : (c : Bool) → (if c then bare_line CascadeLine arguments else Breaks 2) ≡ what → Verb verb arguments what
    by_cascade true f = tried f
    by_cascade false f = unknown f

    by_run : (c : Bool) → bytes_eq verb (codes "run") ≡ c → (if c then run_line arguments else if bytes_eq verb (codes "cascade") then bare_line CascadeLine arguments else Breaks 2) ≡ what → Verb verb arguments what
    by_run true is f = ran (same_text verb (codes "run") is) f
    by_run false is f = by_cascade (bytes_eq verb (codes "cascade")) f

    by_end : (c : Bool) → (if c then bare_line EndLine arguments else if bytes_eq verb (codes "run") then run_line arguments else if bytes_eq verb (codes "cascade") then bare_line CascadeLine arguments else Breaks 2) ≡ what → Verb verb arguments what
    by_end true f = ended f
    by_end false f = by_run (bytes_eq verb (codes "run")) refl f

    by_map : (c : Bool) → bytes_eq verb (codes "map") ≡ c → (if c then map_line arguments else if bytes_eq verb (codes "end") then bare_line EndLine arguments else if bytes_eq verb (codes "run") then run_line arguments else if bytes_eq verb (codes "cascade") then bare_line CascadeLine arguments else Breaks 2) ≡ what → Verb verb arguments what
    by_map true is f = mapped (same_text verb (codes "map") is) f
    by_map false is f = by_end (bytes_eq verb (codes "end")) f

    by_use : (c : Bool) → bytes_eq verb (codes "use") ≡ c → (if c then use_line arguments else if bytes_eq verb (codes "map") then map_line arguments else if bytes_eq verb (codes "end") then bare_line EndLine arguments else if bytes_eq verb (codes "run") then run_line arguments else if bytes_eq verb (codes "cascade") then bare_line CascadeLine arguments else Breaks 2) ≡ what → Verb verb arguments what
    by_use true is f = used (same_text verb (codes "use") is) f
    by_use false is f = by_map (bytes_eq verb (codes "map")) refl f
