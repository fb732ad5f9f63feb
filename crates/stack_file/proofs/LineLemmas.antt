-- Lines and words, by the places of line feeds and spaces.
use Rattle.std.proofs.Common.{◌≡◌, ℕ, ◌+◌, ◌<◌, suc, zero, inl, inr, Bool, true, false, not, cond, ◌==◌, List, [], ◌∷◌, ◌++◌, length, take, drop, ◌-◌, length-drop, get_or, Option, None, Some, refl, ap, sym, ◌∙◌, subst, arith, append_assoc, append-nil, ◌≤◌}
use Rattle.std.specs.Prelude.{option_map}
use Rattle.std.specs.List.{position_or_len}
use Rattle.std.proofs.lemmas.Bool.{cases_Bool}
use Rattle.std.proofs.lemmas.List.{drop_more, drop_all}
use Rattle.rack_text.specs.Escaped.{unescaped}
use Rattle.stack_file.specs.Lines.{before_first, lines, parted, without_empty, words, unindented}
use Rattle.stack_file.specs.Said.{with_text, texts_of}

-- the byte ends a line, or parts words
abbrev pub is_feed : ℕ → Bool
is_feed b = b == 10

abbrev pub is_space : ℕ → Bool
is_space b = b == 32

-- lines, by the place of the first line feed
abbrev pub FedAt : ℕ → List ℕ → List (List ℕ) → Type 0
FedAt p text all = all ≡ take p text ∷ lines (drop (p + 1) text)

fed_next : (feed : Bool) (b : ℕ) (rest : List ℕ) (p : ℕ) → (p < length rest → FedAt p rest (lines rest)) → cond (not feed) (1 + p) 0 < suc (length rest)
    → FedAt (cond (not feed) (1 + p) 0) (b ∷ rest) (cond feed ([] ∷ lines rest) (before_first b (lines rest)))
fed_next true b rest p found inside = refl
fed_next false b rest p found inside =
    let one : suc p ≡ 1 + p = omega arith in
    let less : p < length rest = omega (arith, inside) in
    let behind : suc (p + 1) ≡ suc p + 1 = omega arith in
    subst (λ (n : ℕ). FedAt n (b ∷ rest) (before_first b (lines rest))) one
    (ap (before_first b) (found less) ∙ ap (λ n. (b ∷ take p rest) ∷ lines (drop n (b ∷ rest))) behind)

fed_at : (text : List ℕ) → position_or_len is_feed text < length text → FedAt (position_or_len is_feed text) text (lines text)
fed_at [] inside = absurd (omega (arith, inside))
fed_at (b ∷ rest) inside = fed_next (b == 10) b rest (position_or_len is_feed rest) (fed_at rest) inside

pub lines_found : (text : List ℕ) (i : ℕ) → position_or_len is_feed text ≡ i → i < length text → FedAt i text (lines text)
lines_found text i is inside =
    let at : position_or_len is_feed text < length text = omega (arith, is) in
    subst (λ (k : ℕ). FedAt k text (lines text)) is (fed_at text at)

-- one line, where there is no line feed
unfed_next : (feed : Bool) (b c : ℕ) (rest : List ℕ) (p : ℕ) → (p ≡ suc (length rest) → lines (c ∷ rest) ≡ (c ∷ rest) ∷ []) → cond (not feed) (1 + p) 0 ≡ suc (suc (length rest))
    → cond feed ([] ∷ lines (c ∷ rest)) (before_first b (lines (c ∷ rest))) ≡ (b ∷ c ∷ rest) ∷ []
unfed_next true b c rest p found none = absurd (omega (arith, none))
unfed_next false b c rest p found none =
    let all : p ≡ suc (length rest) = omega (arith, none) in
    ap (before_first b) (found all)

unfed_last : (feed : Bool) (b : ℕ) → ◌≡◌ {A = ℕ} (cond (not feed) 1 0) 1 → cond feed ([] ∷ []) ((b ∷ []) ∷ []) ≡ (b ∷ []) ∷ []
unfed_last true b none = absurd (omega (arith, none))
unfed_last false b none = refl

lines_none : (text : List ℕ) → position_or_len is_feed text ≡ length text → 0 < length text → lines text ≡ text ∷ []
lines_none [] none some = absurd (omega (arith, some))
lines_none (b ∷ []) none some = unfed_last (b == 10) b none
lines_none (b ∷ c ∷ rest) none some = unfed_next (b == 10) b c rest (position_or_len is_feed (c ∷ rest)) (λ all. lines_none (c ∷ rest) all (omega arith)) none

pub line_alone : (text behind : List ℕ) → position_or_len is_feed text ≡ length text → 0 < length text → behind ≡ [] → lines text ≡ text ∷ lines behind
line_alone text behind none some nothing = lines_none text none some ∙ ap (λ rest. text ∷ lines rest) (sym nothing)

-- what stands between spaces, by the place of the first space
abbrev pub AtPlace : ℕ → List ℕ → List (List ℕ) → Type 0
AtPlace p text all = all ≡ take p text ∷ parted (drop (p + 1) text)

at_next : (space : Bool) (b : ℕ) (rest : List ℕ) (p : ℕ) → (p < length rest → AtPlace p rest (parted rest)) → cond (not space) (1 + p) 0 < suc (length rest)
    → AtPlace (cond (not space) (1 + p) 0) (b ∷ rest) (cond space ([] ∷ parted rest) (before_first b (parted rest)))
at_next true b rest p found inside = refl
at_next false b rest p found inside =
    let one : suc p ≡ 1 + p = omega arith in
    let less : p < length rest = omega (arith, inside) in
    let behind : suc (p + 1) ≡ suc p + 1 = omega arith in
    subst (λ (n : ℕ). AtPlace n (b ∷ rest) (before_first b (parted rest))) one
    (ap (before_first b) (found less) ∙ ap (λ n. (b ∷ take p rest) ∷ parted (drop n (b ∷ rest))) behind)

parted_at : (text : List ℕ) → position_or_len is_space text < length text → AtPlace (position_or_len is_space text) text (parted text)
parted_at [] inside = absurd (omega (arith, inside))
parted_at (b ∷ rest) inside = at_next (b == 32) b rest (position_or_len is_space rest) (parted_at rest) inside

none_next : (space : Bool) (b : ℕ) (rest : List ℕ) (p : ℕ) → (p ≡ length rest → parted rest ≡ rest ∷ []) → cond (not space) (1 + p) 0 ≡ suc (length rest)
    → cond space ([] ∷ parted rest) (before_first b (parted rest)) ≡ (b ∷ rest) ∷ []
none_next true b rest p found none = absurd (omega (arith, none))
none_next false b rest p found none =
    let all : p ≡ length rest = omega (arith, none) in
    ap (before_first b) (found all)

parted_none : (text : List ℕ) → position_or_len is_space text ≡ length text → parted text ≡ text ∷ []
parted_none [] none = refl
parted_none (b ∷ rest) none = none_next (b == 32) b rest (position_or_len is_space rest) (parted_none rest) none

-- spaces at the front make no word
pub words_unindented : (line : List ℕ) → words (unindented line) ≡ words line
words_unindented [] = refl
words_unindented (b ∷ bytes) = elim (cases_Bool (b == 32)) as (λ _. words (unindented (b ∷ bytes)) ≡ words (b ∷ bytes)) [
  | inl space ↦ rw space (words_unindented bytes)
  | inr other ↦ rw other (ap (λ space. without_empty (cond space ([] ∷ parted bytes) (before_first b (parted bytes)))) other)
]

-- and none is left
unspaced_next : (space : Bool) (b : ℕ) (bytes : List ℕ) → b == 32 ≡ space → (0 < length (unindented bytes) → 0 < position_or_len is_space (unindented bytes))
    → 0 < length (cond space (unindented bytes) (b ∷ bytes)) → 0 < position_or_len is_space (cond space (unindented bytes) (b ∷ bytes))
unspaced_next true b bytes is more some = more some
unspaced_next false b bytes is more some = subst (λ (space : Bool). 0 < cond (not space) (1 + position_or_len is_space bytes) 0) (sym is) (omega arith)

pub unspaced : (line : List ℕ) → 0 < length (unindented line) → 0 < position_or_len is_space (unindented line)
unspaced [] some = absurd (omega (arith, some))
unspaced (b ∷ bytes) some = unspaced_next (b == 32) b bytes refl (unspaced bytes) some

kept_first : (word : List ℕ) (more : List (List ℕ)) → 0 < length word → without_empty (word ∷ more) ≡ word ∷ without_empty more
kept_first [] more some = absurd (omega (arith, some))
kept_first (b ∷ word) more some = refl

taken_some : (i : ℕ) (text : List ℕ) → 0 < i → i < length text → 0 < length (take i text)
taken_some i [] some inside = absurd (omega (arith, inside))
taken_some zero (b ∷ text) some inside = absurd (omega (arith, some))
taken_some (suc i) (b ∷ text) some inside = omega arith

unindented_less : (line : List ℕ) → length (unindented line) ≤ length line
unindented_less [] = omega arith
unindented_less (b ∷ bytes) = less (b == 32) (unindented_less bytes)
  where
    less : (space : Bool) → length (unindented bytes) ≤ length bytes → length (cond space (unindented bytes) (b ∷ bytes)) ≤ suc (length bytes)
    less true more = omega (arith, more)
    less false more = omega arith

found_first : (line behind : List ℕ) (i : ℕ) → position_or_len is_space (unindented line) ≡ i → i < length (unindented line) → behind ≡ drop (i + 1) (unindented line)
    → (words line ≡ take i (unindented line) ∷ words behind) × (length behind < length line)
found_first line behind i is inside rest =
    let text = unindented line in
    let at : position_or_len is_space text < length text = omega (arith, is) in
    let some : 0 < position_or_len is_space text = unspaced line (omega (arith, inside)) in
    let first : 0 < i = omega (arith, is, some) in
    let less : length text ≤ length line = unindented_less line in
    let size : length behind ≡ length text - (i + 1) = ap length rest ∙ length-drop (i + 1) text in (
      sym (words_unindented line)
          ∙ ap (λ all. without_empty all) (subst (λ (k : ℕ). AtPlace k text (parted text)) is (parted_at text at))
          ∙ kept_first (take i text) (parted (drop (i + 1) text)) (taken_some i text first inside)
          ∙ ap (λ left. take i text ∷ words left) (sym rest),
      omega (arith, size, less, inside),
    )

pub word_found : (line text behind : List ℕ) (i : ℕ) → text ≡ unindented line → position_or_len is_space text ≡ i → i < length text → behind ≡ drop (i + 1) text
    → (words line ≡ take i text ∷ words behind) × (length behind < length line)
word_found line text behind i e =
    subst (λ (t : List ℕ). position_or_len is_space t ≡ i → i < length t → behind ≡ drop (i + 1) t → (words line ≡ take i t ∷ words behind) × (length behind < length line)) (sym e) (found_first line behind i)

alone_first : (line behind : List ℕ) → position_or_len is_space (unindented line) ≡ length (unindented line) → 0 < length (unindented line) → behind ≡ []
    → (words line ≡ unindented line ∷ words behind) × (length behind < length line)
alone_first line behind none some nothing =
    let less : length (unindented line) ≤ length line = unindented_less line in
    let size : length behind ≡ 0 = ap length nothing in (
      sym (words_unindented line)
          ∙ ap (λ all. without_empty all) (parted_none (unindented line) none)
          ∙ kept_first (unindented line) [] some
          ∙ ap (λ rest. unindented line ∷ words rest) (sym nothing),
      omega (arith, size, less, some),
    )

pub word_alone : (line text behind : List ℕ) → text ≡ unindented line → position_or_len is_space text ≡ length text → 0 < length text → behind ≡ []
    → (words line ≡ text ∷ words behind) × (length behind < length line)
word_alone line text behind e =
    subst (λ (t : List ℕ). position_or_len is_space t ≡ length t → 0 < length t → behind ≡ [] → (words line ≡ t ∷ words behind) × (length behind < length line)) (sym e) (alone_first line behind)

pub words_nothing : (line : List ℕ) → unindented line ≡ [] → words line ≡ []
words_nothing line nothing = sym (words_unindented line) ∙ ap (λ text. words text) nothing

-- texts that are there stand behind these
abbrev pub behind_all : List (List ℕ) → Option (List (List ℕ)) → Option (List (List ℕ))
behind_all done texts = option_map (λ more. done ++ more) texts

more : (done : List (List ℕ)) (text : List ℕ) (texts : Option (List (List ℕ))) → behind_all done (with_text (Some text) texts) ≡ behind_all (done ++ text ∷ []) texts
more done text None = refl
more done text (Some texts) = ap Some (sym (append_assoc done (text ∷ []) texts))

pub texts_more : (words : List (List ℕ)) (i : ℕ) (text : List ℕ) (done : List (List ℕ)) (word : List ℕ) → i < length words → Some text ≡ unescaped (get_or words i word)
    → texts_of words ≡ behind_all done (texts_of (drop i words)) → texts_of words ≡ behind_all (done ++ text ∷ []) (texts_of (drop (i + 1) words))
texts_more words i text done word within is so_far =
    so_far ∙ ap (λ rest. behind_all done (texts_of rest)) (drop_more words i word within)
    ∙ ap (λ first. behind_all done (with_text first (texts_of (drop (i + 1) words)))) (sym is)
    ∙ more done text (texts_of (drop (i + 1) words))

pub texts_none : (words : List (List ℕ)) (i : ℕ) (done : List (List ℕ)) (word : List ℕ) → i < length words → None ≡ unescaped (get_or words i word)
    → texts_of words ≡ behind_all done (texts_of (drop i words)) → texts_of words ≡ None
texts_none words i done word within is so_far =
    so_far ∙ ap (λ rest. behind_all done (texts_of rest)) (drop_more words i word within)
    ∙ ap (λ first. behind_all done (with_text first (texts_of (drop (i + 1) words)))) (sym is)

pub texts_end : (words : List (List ℕ)) (i : ℕ) (done : List (List ℕ)) → length words ≤ i → texts_of words ≡ behind_all done (texts_of (drop i words))
    → Some done ≡ texts_of words
texts_end words i done end so_far =
    ap Some (sym (append-nil done)) ∙ ap (λ rest. behind_all done (texts_of rest)) (sym (drop_all i words end)) ∙ sym so_far
