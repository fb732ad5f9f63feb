-- What a chunk and the last chunk are made of.
use Rattle.std.proofs.Common.{◌≡◌, ℕ, zero, suc, ◌+◌, ◌-◌, ◌<◌, ◌≤◌, Bool, true, false, ◌&&◌, ◌==◌, nat_lt, nat_le, if◌then◌else◌, MatchBool, List, [], ◌∷◌, length, take, drop, Option, None, Some, inl, inr, refl, ap, ◌∙◌, arith, length-take, length-drop, ltb-false}
use Rattle.rack_types.specs.declared.fault.Fault.{Fault}
use Rattle.rack_types.specs.declared.fault.Fault.TheVariants.{F}
use Rattle.message_framing.specs.Framing.{body_limit}
use Rattle.message_framing.specs.Chunks.{size_line_limit, trailer_limit, size_line_within, trailer_within, has_too_many_fields, coming, chunk, last, refused, data_front, chunk_front, TrailerText, TrailerFront, SizeFront, LineFront, FrontIs}
use Rattle.message_framing.proofs.LineEndLemmas.{LineAt, line_at, TrailerAt, trailer_at}
use Rattle.message_framing.proofs.FrontLemmas.{FewLines, SizeCases}

chunk_if : (whole : Bool) (n len : ℕ) (bytes got : List ℕ) → chunk n bytes ≡ (if whole then chunk len got else refused (F 13))
    → (n ≡ len) × (bytes ≡ got)
chunk_if true n len bytes got is = let same : chunk n bytes ≡ chunk len got = is in (cc, cc)
chunk_if false n len bytes got is = absurd (let clash : chunk n bytes ≡ refused (F 13) = is in cc)

-- no chunk is a refusal or nothing whole
chunk_unless : (test : Bool) (n : ℕ) (bytes : List ℕ) (x : Fault) → chunk n bytes ≡ (if test then refused x else coming) → ⊥
chunk_unless true n bytes x is = let clash : chunk n bytes ≡ refused x = is in cc
chunk_unless false n bytes x is = let clash : chunk n bytes ≡ coming = is in cc

chunk_unless_coming : (test : Bool) (n : ℕ) (bytes : List ℕ) (x : Fault) → chunk n bytes ≡ (if test then coming else refused x) → ⊥
chunk_unless_coming true n bytes x is = let clash : chunk n bytes ≡ coming = is in cc
chunk_unless_coming false n bytes x is = let clash : chunk n bytes ≡ refused x = is in cc

-- behind a chunk's data stand two bytes more
data_is_chunk : (len : ℕ) (got d : List ℕ) (n : ℕ) (bytes : List ℕ) → chunk n bytes ≡ data_front len got d
    → (n ≡ len) × (bytes ≡ got) × (2 ≤ length d)
data_is_chunk len got [] n bytes is = absurd (let clash : chunk n bytes ≡ coming = is in cc)
data_is_chunk len got (x ∷ []) n bytes is = absurd (chunk_unless_coming (x == 13) n bytes (F 13) is)
data_is_chunk len got (x ∷ y ∷ d) n bytes is =
    let same = chunk_if ((x == 13) && (y == 10)) n len bytes got is in (same.0, same.1, omega arith)

few_no_chunk : (text : List ℕ) (len n : ℕ) (bytes : List ℕ) → FewLines text len (chunk n bytes) → ⊥
few_no_chunk text len n bytes (inl x) = let clash : chunk n bytes ≡ last len = x.1 in cc
few_no_chunk text len n bytes (inr x) = let clash : chunk n bytes ≡ refused (F 13) = x.1 in cc

text_no_chunk : (text : List ℕ) (len n : ℕ) (bytes : List ℕ) → TrailerText text len (chunk n bytes) → ⊥
text_no_chunk text len n bytes h = go (has_too_many_fields text) h
  where
    go : (b : Bool) → MatchBool b (chunk n bytes ≡ refused (F 16)) (FewLines text len (chunk n bytes)) → ⊥
    go true is = let clash : chunk n bytes ≡ refused (F 16) = is in cc
    go false h = few_no_chunk text len n bytes h

trailer_no_chunk : (o : Option ℕ) (k : ℕ) (rest : List ℕ) (n : ℕ) (bytes : List ℕ) → TrailerFront o k rest (chunk n bytes) → ⊥
trailer_no_chunk None k rest n bytes is = chunk_unless (nat_lt trailer_limit (length rest)) n bytes (F 16) is
trailer_no_chunk (Some m) k rest n bytes h = text_no_chunk (take m rest) (k + m) n bytes h

above_zero : (size : ℕ) → (size == 0) ≡ false → 0 < size
above_zero zero is = absurd (let clash : ◌≡◌ {A = Bool} true false = is in cc)
above_zero (suc k) is = omega arith

-- a size above 0 within the limit of all data
record GoodSize (sum k size : ℕ) (rest : List ℕ) (n : ℕ) (bytes : List ℕ) : Type 0 where
  some : 0 < size
  within : sum + size ≤ body_limit
  front : chunk n bytes ≡ chunk_front k size rest

good_size : (sum k size : ℕ) (rest : List ℕ) (n : ℕ) (bytes : List ℕ) → SizeFront sum k size rest (chunk n bytes)
    → GoodSize sum k size rest n bytes
good_size sum k size rest n bytes h = go (nat_lt body_limit (sum + size)) (size == 0) refl refl h
  where
    go : (over none : Bool) → nat_lt body_limit (sum + size) ≡ over → (size == 0) ≡ none → SizeCases over none k size rest (chunk n bytes)
        → GoodSize sum k size rest n bytes
    go true none a z h = absurd (let clash : chunk n bytes ≡ refused (F 14) = h in cc)
    go false true a z h = absurd (trailer_no_chunk (trailer_within rest) k rest n bytes h)
    go false false a z h = record {
      some = above_zero size z;
      within = omega (arith, ltb-false body_limit (sum + size) a);
      front = h;
    }

-- a chunk is a size line, so many bytes, and two bytes more
pub record ChunkAt (sum : ℕ) (b : List ℕ) (n : ℕ) (bytes : List ℕ) : Type 0 where
  pub line : ℕ
  pub size : ℕ
  pub at : LineAt b line
  pub some : 0 < size
  pub within : sum + size ≤ body_limit
  pub len : n ≡ line + (size + 2)
  pub bytes_are : bytes ≡ take size (drop line b)
  pub behind : 2 ≤ length (drop size (drop line b))

pub chunk_at : (sum : ℕ) (b : List ℕ) (n : ℕ) (bytes : List ℕ) → FrontIs sum b (chunk n bytes) → ChunkAt sum b n bytes
chunk_at sum b n bytes h = go (size_line_within b) refl h
  where
    go : (o : Option ℕ) → size_line_within b ≡ o → LineFront o sum b (chunk n bytes) → ChunkAt sum b n bytes
    go None is h = absurd (chunk_unless (nat_le size_line_limit (length b)) n bytes (F 15) h)
    go (Some k) is (inl x) = absurd (let clash : chunk n bytes ≡ refused (F 13) = x.1 in cc)
    go (Some k) is (inr x) =
        let good = good_size sum k x.0 (drop k b) n bytes x.2 in
        let same = data_is_chunk (k + (x.0 + 2)) (take x.0 (drop k b)) (drop x.0 (drop k b)) n bytes good.front in
        record {
          line = k;
          size = x.0;
          at = line_at b k is;
          some = good.some;
          within = good.within;
          len = same.0;
          bytes_are = same.1;
          behind = same.2;
        }

-- the size is that of the data
chunk_length : (sum : ℕ) (b : List ℕ) (n : ℕ) (bytes : List ℕ) (c : ChunkAt sum b n bytes) → length bytes ≡ c.size
chunk_length sum b n bytes c =
    let room : 2 ≤ length (drop c.line b) - c.size = omega (arith, c.behind, length-drop c.size (drop c.line b)) in
    ap length c.bytes_are ∙ length-take c.size (drop c.line b) ∙ omega (arith, room)

pub record ChunkInside (b : List ℕ) (n : ℕ) (bytes : List ℕ) : Type 0 where
  pub inside : n ≤ length b
  pub some : 0 < length bytes
  pub room : n ≤ 1026 + length bytes
  pub more : length bytes < n

pub chunk_inside : (sum : ℕ) (b : List ℕ) (n : ℕ) (bytes : List ℕ) → FrontIs sum b (chunk n bytes) → ChunkInside b n bytes
chunk_inside sum b n bytes h =
    let c = chunk_at sum b n bytes h in
    let size : length bytes ≡ c.size = chunk_length sum b n bytes c in
    let data_left : length (drop c.size (drop c.line b)) ≡ length (drop c.line b) - c.size = length-drop c.size (drop c.line b) in
    let line_left : length (drop c.line b) ≡ length b - c.line = length-drop c.line b in
    record {
      inside = omega (arith, c.len, c.behind, data_left, line_left);
      some = omega (arith, c.some, size);
      room = omega (arith, c.len, c.at.limit, size);
      more = omega (arith, c.len, size);
    }

pub chunk_sum : (sum : ℕ) (b : List ℕ) (n : ℕ) (bytes : List ℕ) → FrontIs sum b (chunk n bytes) → sum + length bytes ≤ body_limit
chunk_sum sum b n bytes h =
    let c = chunk_at sum b n bytes h in
    omega (arith, c.within, chunk_length sum b n bytes c)

-- ---- what the last chunk is made of

last_unless : (test : Bool) (n : ℕ) (x : Fault) → last n ≡ (if test then refused x else coming) → ⊥
last_unless true n x is = let clash : last n ≡ refused x = is in cc
last_unless false n x is = let clash : last n ≡ coming = is in cc

last_unless_coming : (test : Bool) (n : ℕ) (x : Fault) → last n ≡ (if test then coming else refused x) → ⊥
last_unless_coming true n x is = let clash : last n ≡ coming = is in cc
last_unless_coming false n x is = let clash : last n ≡ refused x = is in cc

last_unless_chunk : (test : Bool) (n len : ℕ) (got : List ℕ) (x : Fault) → last n ≡ (if test then chunk len got else refused x) → ⊥
last_unless_chunk true n len got x is = let clash : last n ≡ chunk len got = is in cc
last_unless_chunk false n len got x is = let clash : last n ≡ refused x = is in cc

data_no_last : (len : ℕ) (got d : List ℕ) (n : ℕ) → last n ≡ data_front len got d → ⊥
data_no_last len got [] n is = let clash : last n ≡ coming = is in cc
data_no_last len got (x ∷ []) n is = last_unless_coming (x == 13) n (F 13) is
data_no_last len got (x ∷ y ∷ d) n is = last_unless_chunk ((x == 13) && (y == 10)) n len got (F 13) is

few_last : (text : List ℕ) (len n : ℕ) → FewLines text len (last n) → n ≡ len
few_last text len n (inl x) = let same : last n ≡ last len = x.1 in cc
few_last text len n (inr x) = absurd (let clash : last n ≡ refused (F 13) = x.1 in cc)

text_last : (text : List ℕ) (len n : ℕ) → TrailerText text len (last n) → n ≡ len
text_last text len n h = go (has_too_many_fields text) h
  where
    go : (b : Bool) → MatchBool b (last n ≡ refused (F 16)) (FewLines text len (last n)) → n ≡ len
    go true is = absurd (let clash : last n ≡ refused (F 16) = is in cc)
    go false h = few_last text len n h

-- the last chunk is a size line and a trailer
record TrailerPart (k : ℕ) (rest : List ℕ) (n : ℕ) : Type 0 where
  m : ℕ
  at : TrailerAt rest m
  len : n ≡ k + m

trailer_part : (k : ℕ) (rest : List ℕ) (n : ℕ) → TrailerFront (trailer_within rest) k rest (last n) → TrailerPart k rest n
trailer_part k rest n h = go (trailer_within rest) refl h
  where
    go : (o : Option ℕ) → trailer_within rest ≡ o → TrailerFront o k rest (last n) → TrailerPart k rest n
    go None is h = absurd (last_unless (nat_lt trailer_limit (length rest)) n (F 16) h)
    go (Some m) is h = record { m = m; at = trailer_at rest m is; len = text_last (take m rest) (k + m) n h }

size_last : (sum k size : ℕ) (rest : List ℕ) (n : ℕ) → SizeFront sum k size rest (last n) → TrailerPart k rest n
size_last sum k size rest n h = go (nat_lt body_limit (sum + size)) (size == 0) h
  where
    go : (over none : Bool) → SizeCases over none k size rest (last n) → TrailerPart k rest n
    go true none h = absurd (let clash : last n ≡ refused (F 14) = h in cc)
    go false true h = trailer_part k rest n h
    go false false h = absurd (data_no_last (k + (size + 2)) (take size rest) (drop size rest) n h)

pub last_inside : (sum : ℕ) (b : List ℕ) (n : ℕ) → FrontIs sum b (last n) → (0 < n) × (n ≤ length b)
last_inside sum b n h = go (size_line_within b) refl h
  where
    go : (o : Option ℕ) → size_line_within b ≡ o → LineFront o sum b (last n) → (0 < n) × (n ≤ length b)
    go None is h = absurd (last_unless (nat_le size_line_limit (length b)) n (F 15) h)
    go (Some k) is (inl x) = absurd (let clash : last n ≡ refused (F 13) = x.1 in cc)
    go (Some k) is (inr x) =
        let part = size_last sum k x.0 (drop k b) n x.2 in
        let line = line_at b k is in
        let left : length (drop k b) ≡ length b - k = length-drop k b in
        (omega (arith, part.len, line.some), omega (arith, part.len, part.at.inside, line.inside, left))
