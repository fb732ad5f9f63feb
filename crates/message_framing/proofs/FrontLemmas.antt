-- One front stands, and one that is whole stays.
use Rattle.std.proofs.Common.{◌≡◌, ◌≢◌, ℕ, ◌+◌, ◌-◌, ◌<◌, ◌≤◌, ◌⊎◌, Bool, true, false, ◌&&◌, ◌==◌, nat_lt, nat_le, if◌then◌else◌, MatchBool, List, [], ◌∷◌, ◌++◌, length, take, drop, Option, None, Some, inl, inr, refl, ap, sym, ◌∙◌, subst, arith, length-append, lt-ltb, ltb-true, le-leb, leb-true}
use Rattle.std.proofs.lemmas.Bool.{cases_lt}
use Rattle.std.proofs.lemmas.List.{take-append-le, drop-append-le, drop_all}
use Rattle.httparse.specs.Grammar.{chunk_size}
use Rattle.httparse.proofs.ChunkLemmas.{chunk_line_unique}
use Rattle.rack_types.specs.declared.fault.Fault.{Fault}
use Rattle.rack_types.specs.declared.fault.Fault.TheVariants.{F}
use Rattle.message_framing.specs.Framing.{body_limit}
use Rattle.message_framing.specs.Chunks.{size_line_limit, trailer_limit, line_end, size_line_within, trailer_end, trailer_within, NamesSize, NamesNone, IsTrailer, IsNoTrailer, has_too_many_fields, Front, coming, chunk, last, refused, data_front, chunk_front, TrailerText, TrailerFront, SizeFront, LineFront, FrontIs}
use Rattle.message_framing.proofs.HeadTextLemmas.{bool_cases}
use Rattle.message_framing.proofs.LineEndLemmas.{line_at, line_stays, trailer_at, trailer_stays}

-- a size line names one size
pub size_unique : (line : List ℕ) (s t : ℕ) → NamesSize line s → NamesSize line t → s ≡ t
size_unique line s t x y =
    let same : x.0 ≡ y.0 = (chunk_line_unique line x.0 y.0 [] [] x.1 y.1).0 in
    x.2 ∙ ap chunk_size same ∙ sym y.2

-- a trailer's text of few lines
abbrev pub FewLines : List ℕ → ℕ → Front → Type 0
FewLines text len f = (IsTrailer text × (f ≡ last len)) ⊎ (IsNoTrailer text × (f ≡ refused (F 13)))

few_unique : (text : List ℕ) (len : ℕ) (f g : Front) → FewLines text len f → FewLines text len g → f ≡ g
few_unique text len f g (inl x) (inl y) = x.1 ∙ sym y.1
few_unique text len f g (inl x) (inr y) = absurd (y.0 x.0)
few_unique text len f g (inr x) (inl y) = absurd (x.0 y.0)
few_unique text len f g (inr x) (inr y) = x.1 ∙ sym y.1

text_unique : (text : List ℕ) (len : ℕ) (f g : Front) → TrailerText text len f → TrailerText text len g → f ≡ g
text_unique text len f g x y = go (has_too_many_fields text) x y
  where
    go : (b : Bool) → MatchBool b (f ≡ refused (F 16)) (FewLines text len f) → MatchBool b (g ≡ refused (F 16)) (FewLines text len g) → f ≡ g
    go true x y = x ∙ sym y
    go false x y = few_unique text len f g x y

trailer_unique : (o : Option ℕ) (n : ℕ) (rest : List ℕ) (f g : Front) → TrailerFront o n rest f → TrailerFront o n rest g → f ≡ g
trailer_unique None n rest f g x y = x ∙ sym y
trailer_unique (Some m) n rest f g x y = text_unique (take m rest) (n + m) f g x y

-- by the size, with its two tests taken apart
abbrev pub SizeCases : Bool → Bool → ℕ → ℕ → List ℕ → Front → Type 0
SizeCases over zero_size n size rest f =
    MatchBool over (f ≡ refused (F 14)) (MatchBool zero_size (TrailerFront (trailer_within rest) n rest f) (f ≡ chunk_front n size rest))

size_front_unique : (sum n size : ℕ) (rest : List ℕ) (f g : Front) → SizeFront sum n size rest f → SizeFront sum n size rest g → f ≡ g
size_front_unique sum n size rest f g x y = go (nat_lt body_limit (sum + size)) (size == 0) x y
  where
    go : (over none : Bool) → SizeCases over none n size rest f → SizeCases over none n size rest g → f ≡ g
    go true none x y = x ∙ sym y
    go false true x y = trailer_unique (trailer_within rest) n rest f g x y
    go false false x y = x ∙ sym y

line_unique : (o : Option ℕ) (sum : ℕ) (b : List ℕ) (f g : Front) → LineFront o sum b f → LineFront o sum b g → f ≡ g
line_unique None sum b f g x y = x ∙ sym y
line_unique (Some n) sum b f g (inl x) (inl y) = x.1 ∙ sym y.1
line_unique (Some n) sum b f g (inl x) (inr y) = absurd (x.0 y.1.0 y.1.1)
line_unique (Some n) sum b f g (inr x) (inl y) = absurd (y.0 x.1.0 x.1.1)
line_unique (Some n) sum b f g (inr x) (inr y) =
    let same : x.0 ≡ y.0 = size_unique (take n b) x.0 y.0 x.1 y.1 in
    size_front_unique sum n y.0 (drop n b) f g (subst (λ (s : ℕ). SizeFront sum n s (drop n b) f) same x.2) y.2

pub front_unique : (sum : ℕ) (b : List ℕ) (f g : Front) → FrontIs sum b f → FrontIs sum b g → f ≡ g
front_unique sum b f g x y = line_unique (size_line_within b) sum b f g x y

-- ---- a front that is whole stays

-- one byte of the line end behind a chunk's data
one_byte_stays : (first second : Bool) (len : ℕ) (bytes : List ℕ) (f : Front) → f ≡ (if first then coming else refused (F 13)) → f ≢ coming
    → f ≡ (if first && second then chunk len bytes else refused (F 13))
one_byte_stays true second len bytes f is whole = absurd (whole is)
one_byte_stays false second len bytes f is whole = is

data_front_stays : (len : ℕ) (bytes d c : List ℕ) (f : Front) → f ≡ data_front len bytes d → f ≢ coming → f ≡ data_front len bytes (d ++ c)
data_front_stays len bytes [] c f is whole = absurd (whole is)
data_front_stays len bytes (x ∷ []) [] f is whole = is
data_front_stays len bytes (x ∷ []) (y ∷ c) f is whole = one_byte_stays (x == 13) (y == 10) len bytes f is whole
data_front_stays len bytes (x ∷ y ∷ d) c f is whole = is

-- data that is cut is still coming
cut_data : (n size : ℕ) (rest : List ℕ) (f : Front) → f ≡ chunk_front n size rest → f ≢ coming → size ≤ length rest
cut_data n size rest f is whole = elim (cases_lt (length rest) size) [
  | inl cut ↦
      let short : length rest ≤ size = omega arith in
      absurd (whole (subst (λ (d : List ℕ). f ≡ data_front (n + (size + 2)) (take size rest) d) (drop_all size rest short) is))
  | inr fits ↦ fits
]

chunk_front_stays : (n size : ℕ) (rest c : List ℕ) (f : Front) → f ≡ chunk_front n size rest → f ≢ coming → f ≡ chunk_front n size (rest ++ c)
chunk_front_stays n size rest c f is whole =
    let fits : size ≤ length rest = cut_data n size rest f is whole in
    let more : f ≡ data_front (n + (size + 2)) (take size rest) (drop size rest ++ c) =
    data_front_stays (n + (size + 2)) (take size rest) (drop size rest) c f is whole in
    subst (λ (t : List ℕ). f ≡ data_front (n + (size + 2)) t (drop size (rest ++ c))) (sym (take-append-le size rest c fits))
    (subst (λ (d : List ℕ). f ≡ data_front (n + (size + 2)) (take size rest) d) (sym (drop-append-le size rest c fits)) more)

-- past a limit
past_limit : (limit k m : ℕ) (x : Fault) (f : Front) → f ≡ (if nat_lt limit k then refused x else coming) → f ≢ coming → k ≤ m
    → (limit < k) × (f ≡ (if nat_lt limit m then refused x else coming))
past_limit limit k m x f is whole more = elim (bool_cases (nat_lt limit k)) [
  | inl past ↦
      let over : limit < k = ltb-true limit k past in
      let still : nat_lt limit m ≡ true = lt-ltb limit m (omega arith) in
      (over, rw still (rw past at is))
  | inr below ↦ absurd (whole (rw below at is))
]

at_limit : (limit k m : ℕ) (x : Fault) (f : Front) → f ≡ (if nat_le limit k then refused x else coming) → f ≢ coming → k ≤ m
    → (limit ≤ k) × (f ≡ (if nat_le limit m then refused x else coming))
at_limit limit k m x f is whole more = elim (bool_cases (nat_le limit k)) [
  | inl past ↦
      let over : limit ≤ k = leb-true limit k past in
      let still : nat_le limit m ≡ true = le-leb limit m (omega arith) in
      (over, rw still (rw past at is))
  | inr below ↦ absurd (whole (rw below at is))
]

longer_length : (b c : List ℕ) → length b ≤ length (b ++ c)
longer_length b c = omega (arith, length-append b c)

trailer_front_stays : (n : ℕ) (rest c : List ℕ) (f : Front) → TrailerFront (trailer_within rest) n rest f → f ≢ coming
    → TrailerFront (trailer_within (rest ++ c)) n (rest ++ c) f
trailer_front_stays n rest c f h whole = go (trailer_within rest) refl h
  where
    go : (o : Option ℕ) → trailer_within rest ≡ o → TrailerFront o n rest f → TrailerFront (trailer_within (rest ++ c)) n (rest ++ c) f
    go None is h =
        let over = past_limit trailer_limit (length rest) (length (rest ++ c)) (F 16) f h whole (longer_length rest c) in
        let fits : trailer_limit ≤ length rest = omega (arith, over.0) in
        let same : trailer_within (rest ++ c) ≡ None = ap trailer_end (take-append-le trailer_limit rest c fits) ∙ is in
        subst (λ (o : Option ℕ). TrailerFront o n (rest ++ c) f) (sym same) over.1
    go (Some m) is h =
        subst (λ (o : Option ℕ). TrailerFront o n (rest ++ c) f) (sym (trailer_stays rest c m is))
        (subst (λ (t : List ℕ). TrailerText t (n + m) f) (sym (take-append-le m rest c (trailer_at rest m is).inside)) h)

size_front_stays : (sum n size : ℕ) (rest c : List ℕ) (f : Front) → SizeFront sum n size rest f → f ≢ coming → SizeFront sum n size (rest ++ c) f
size_front_stays sum n size rest c f h whole = go (nat_lt body_limit (sum + size)) (size == 0) h
  where
    go : (over none : Bool) → SizeCases over none n size rest f → SizeCases over none n size (rest ++ c) f
    go true none h = h
    go false true h = trailer_front_stays n rest c f h whole
    go false false h = chunk_front_stays n size rest c f h whole

some_line_stays : (n sum : ℕ) (b c : List ℕ) (f : Front) → n ≤ length b → LineFront (Some n) sum b f → f ≢ coming → LineFront (Some n) sum (b ++ c) f
some_line_stays n sum b c f inside (inl x) whole =
    inl (subst (λ (t : List ℕ). NamesNone t) (sym (take-append-le n b c inside)) x.0, x.1)
some_line_stays n sum b c f inside (inr x) whole = inr (
  x.0,
  subst (λ (t : List ℕ). NamesSize t x.0) (sym (take-append-le n b c inside)) x.1,
  subst (λ (d : List ℕ). SizeFront sum n x.0 d f) (sym (drop-append-le n b c inside)) (size_front_stays sum n x.0 (drop n b) c f x.2 whole),
)

pub front_stays : (sum : ℕ) (b c : List ℕ) (f : Front) → FrontIs sum b f → f ≢ coming → FrontIs sum (b ++ c) f
front_stays sum b c f h whole = go (size_line_within b) refl h
  where
    go : (o : Option ℕ) → size_line_within b ≡ o → LineFront o sum b f → FrontIs sum (b ++ c) f
    go None is h =
        let over = at_limit size_line_limit (length b) (length (b ++ c)) (F 15) f h whole (longer_length b c) in
        let same : size_line_within (b ++ c) ≡ None = ap line_end (take-append-le size_line_limit b c over.0) ∙ is in
        subst (λ (o : Option ℕ). LineFront o sum (b ++ c) f) (sym same) over.1
    go (Some n) is h =
        subst (λ (o : Option ℕ). LineFront o sum (b ++ c) f) (sym (line_stays b c n is))
        (some_line_stays n sum b c f (line_at b n is).inside h whole)

pub chunk_is_whole : (n : ℕ) (bytes : List ℕ) → chunk n bytes ≢ coming
chunk_is_whole n bytes is = cc

pub last_is_whole : (n : ℕ) → last n ≢ coming
last_is_whole n is = cc

pub refused_is_whole : (f : Fault) → refused f ≢ coming
refused_is_whole f is = cc
