-- Chunks up to the last, bodies, and chunks of which the rest is still open.
use Rattle.std.proofs.Common.{◌≡◌, ℕ, ◌+◌, ◌-◌, ◌*◌, ◌≤◌, List, [], ◌∷◌, ◌++◌, length, drop, refl, ap, sym, ◌∙◌, subst, arith, length-append, length-drop, append-nil}
use Rattle.std.specs.List.{concat}
use Rattle.std.proofs.lemmas.List.{drop-append-le, nil_from_length}
use Rattle.rack_types.specs.declared.fault.Fault.{Fault}
use Rattle.message_framing.specs.declared.fields.Framing.{Framing}
use Rattle.message_framing.specs.declared.fields.Framing.TheVariants.{Stated, Chunked}
use Rattle.message_framing.specs.Chunks.{Front, coming, chunk, last, refused, FrontIs, ChunksAt, ChunksRefused, After}
use Rattle.message_framing.specs.Body.{IsBody, BodyRefusal}
use Rattle.message_framing.proofs.FrontLemmas.{front_unique, front_stays, chunk_is_whole, last_is_whole, refused_is_whole}
use Rattle.message_framing.proofs.ChunkPartsLemmas.{chunk_inside, last_inside}

chunk_same : (n m : ℕ) (p q : List ℕ) → chunk n p ≡ chunk m q → (n ≡ m) × (p ≡ q)
chunk_same n m p q is = (cc, cc)

-- what stands behind the same chunk
same_rest : (P : ℕ → List ℕ → Type 0) (sum : ℕ) (b : List ℕ) (n m : ℕ) (p q : List ℕ) → n ≡ m → p ≡ q
    → P (sum + length q) (drop m b) → P (sum + length p) (drop n b)
same_rest P sum b n m p q same bytes h =
    subst (λ (k : ℕ). P (sum + length p) (drop k b)) (sym same) (subst (λ (w : List ℕ). P (sum + length w) (drop m b)) (sym bytes) h)

pub chunks_unique : (ps qs : List (List ℕ)) (sum : ℕ) (b : List ℕ) (n m : ℕ) → ChunksAt ps sum b n → ChunksAt qs sum b m → (ps ≡ qs) × (n ≡ m)
unfolding ChunksAt
chunks_unique [] [] sum b n m x y = let same : last n ≡ last m = front_unique sum b (last n) (last m) x y in (refl, cc)
chunks_unique [] (q ∷ qs) sum b n m x y = absurd (let clash : last n ≡ chunk y.0 q = front_unique sum b (last n) (chunk y.0 q) x y.2 in cc)
chunks_unique (p ∷ ps) [] sum b n m x y = absurd (let clash : chunk x.0 p ≡ last m = front_unique sum b (chunk x.0 p) (last m) x.2 y in cc)
chunks_unique (p ∷ ps) (q ∷ qs) sum b n m x y =
    let same = chunk_same x.0 y.0 p q (front_unique sum b (chunk x.0 p) (chunk y.0 q) x.2 y.2) in
    let rest : ChunksAt qs (sum + length p) (drop x.0 b) y.1 =
    same_rest (λ s d. ChunksAt qs s d y.1) sum b x.0 y.0 p q same.0 same.1 y.3 in
    let later = chunks_unique ps qs (sum + length p) (drop x.0 b) x.1 y.1 x.3 rest in
    (cc (same.1, later.0), omega (arith, x.4, y.4, same.0, later.1))

pub chunks_stay : (ps : List (List ℕ)) (sum : ℕ) (b c : List ℕ) (n : ℕ) → ChunksAt ps sum b n → ChunksAt ps sum (b ++ c) n
unfolding ChunksAt
chunks_stay [] sum b c n x = front_stays sum b c (last n) x (last_is_whole n)
chunks_stay (p ∷ ps) sum b c n x = (
  x.0,
  x.1,
  front_stays sum b c (chunk x.0 p) x.2 (chunk_is_whole x.0 p),
  subst (λ (d : List ℕ). ChunksAt ps (sum + length p) d x.1) (sym (drop-append-le x.0 b c (chunk_inside sum b x.0 p x.2).inside))
      (chunks_stay ps (sum + length p) (drop x.0 b) c x.1 x.3),
  x.4,
)

pub chunks_inside : (ps : List (List ℕ)) (sum : ℕ) (b : List ℕ) (n : ℕ) → ChunksAt ps sum b n → n ≤ length b
unfolding ChunksAt
chunks_inside [] sum b n x = (last_inside sum b n x).1
chunks_inside (p ∷ ps) sum b n x =
    let first : x.0 ≤ length b = (chunk_inside sum b x.0 p x.2).inside in
    let later : x.1 ≤ length (drop x.0 b) = chunks_inside ps (sum + length p) (drop x.0 b) x.1 x.3 in
    omega (arith, x.4, length-drop x.0 b)

pub chunks_not_refused : (ps qs : List (List ℕ)) (sum : ℕ) (b : List ℕ) (n : ℕ) (f : Fault) → ChunksAt ps sum b n → ChunksRefused qs sum b f → ⊥
unfolding ChunksAt ChunksRefused
chunks_not_refused [] [] sum b n f x y = let clash : last n ≡ refused f = front_unique sum b (last n) (refused f) x y in cc
chunks_not_refused [] (q ∷ qs) sum b n f x y = let clash : last n ≡ chunk y.0 q = front_unique sum b (last n) (chunk y.0 q) x y.1 in cc
chunks_not_refused (p ∷ ps) [] sum b n f x y = let clash : chunk x.0 p ≡ refused f = front_unique sum b (chunk x.0 p) (refused f) x.2 y in cc
chunks_not_refused (p ∷ ps) (q ∷ qs) sum b n f x y =
    let same = chunk_same x.0 y.0 p q (front_unique sum b (chunk x.0 p) (chunk y.0 q) x.2 y.1) in
    chunks_not_refused ps qs (sum + length p) (drop x.0 b) x.1 f x.3
    (same_rest (λ s d. ChunksRefused qs s d f) sum b x.0 y.0 p q same.0 same.1 y.2)

pub chunks_refused_unique : (ps qs : List (List ℕ)) (sum : ℕ) (b : List ℕ) (f g : Fault) → ChunksRefused ps sum b f → ChunksRefused qs sum b g → f ≡ g
unfolding ChunksRefused
chunks_refused_unique [] [] sum b f g x y = let same : refused f ≡ refused g = front_unique sum b (refused f) (refused g) x y in cc
chunks_refused_unique [] (q ∷ qs) sum b f g x y =
    absurd (let clash : refused f ≡ chunk y.0 q = front_unique sum b (refused f) (chunk y.0 q) x y.1 in cc)
chunks_refused_unique (p ∷ ps) [] sum b f g x y =
    absurd (let clash : chunk x.0 p ≡ refused g = front_unique sum b (chunk x.0 p) (refused g) x.1 y in cc)
chunks_refused_unique (p ∷ ps) (q ∷ qs) sum b f g x y =
    let same = chunk_same x.0 y.0 p q (front_unique sum b (chunk x.0 p) (chunk y.0 q) x.1 y.1) in
    chunks_refused_unique ps qs (sum + length p) (drop x.0 b) f g x.2
    (same_rest (λ s d. ChunksRefused qs s d g) sum b x.0 y.0 p q same.0 same.1 y.2)

pub chunks_refused_stay : (ps : List (List ℕ)) (sum : ℕ) (b c : List ℕ) (f : Fault) → ChunksRefused ps sum b f → ChunksRefused ps sum (b ++ c) f
unfolding ChunksRefused
chunks_refused_stay [] sum b c f x = front_stays sum b c (refused f) x (refused_is_whole f)
chunks_refused_stay (p ∷ ps) sum b c f x = (
  x.0,
  front_stays sum b c (chunk x.0 p) x.1 (chunk_is_whole x.0 p),
  subst (λ (d : List ℕ). ChunksRefused ps (sum + length p) d f) (sym (drop-append-le x.0 b c (chunk_inside sum b x.0 p x.1).inside))
      (chunks_refused_stay ps (sum + length p) (drop x.0 b) c f x.2),
)

-- ---- bodies by their framing

-- one body, whatever follows
pub body_unique : (g : Framing) (b c x y : List ℕ) → IsBody g b x → IsBody g (b ++ c) y → (c ≡ []) × (x ≡ y)
body_unique (Stated n) b c x y p q =
    let none : c ≡ [] = nil_from_length c (omega (arith, p.0, q.0, length-append b c)) in
    (none, p.1 ∙ sym (q.1 ∙ ap (λ (w : List ℕ). b ++ w) none ∙ append-nil b))
body_unique Chunked b c x y p q =
    let same = chunks_unique p.0 q.0 0 (b ++ c) (length b) (length (b ++ c)) (chunks_stay p.0 0 b c (length b) p.1) q.1 in
    let none : c ≡ [] = nil_from_length c (omega (arith, same.1, length-append b c)) in
    (none, p.2 ∙ ap concat same.0 ∙ sym q.2)

pub body_not_refused : (g : Framing) (b c x : List ℕ) (f : Fault) → IsBody g b x → BodyRefusal g (b ++ c) f → ⊥
body_not_refused (Stated n) b c x f p q = q
body_not_refused Chunked b c x f p q =
    chunks_not_refused p.0 q.0 0 (b ++ c) (length b) f (chunks_stay p.0 0 b c (length b) p.1) q.1

pub body_refusal_unique : (g : Framing) (b : List ℕ) (f k : Fault) → BodyRefusal g b f → BodyRefusal g b k → f ≡ k
body_refusal_unique (Stated n) b f k p q = absurd p
body_refusal_unique Chunked b f k p q = chunks_refused_unique p.0 q.0 0 b f k p.1 q.1

pub body_refusal_stays : (g : Framing) (b c : List ℕ) (f : Fault) → BodyRefusal g b f → BodyRefusal g (b ++ c) f
body_refusal_stays (Stated n) b c f p = p
body_refusal_stays Chunked b c f p = (p.0, chunks_refused_stay p.0 0 b c f p.1)

-- ---- chunks of which the rest is still open

pub after_more : (ps : List (List ℕ)) (sum : ℕ) (b rest c : List ℕ) → After ps sum b rest → After ps sum (b ++ c) (rest ++ c)
unfolding After
after_more [] sum b rest c x = ap (λ (w : List ℕ). w ++ c) x
after_more (p ∷ ps) sum b rest c x = (
  x.0,
  front_stays sum b c (chunk x.0 p) x.1 (chunk_is_whole x.0 p),
  subst (λ (d : List ℕ). After ps (sum + length p) d (rest ++ c)) (sym (drop-append-le x.0 b c (chunk_inside sum b x.0 p x.1).inside))
      (after_more ps (sum + length p) (drop x.0 b) rest c x.2),
)

-- the bytes of data before the rest
no_sum : (sum : ℕ) → sum + length (concat []) ≡ sum
no_sum sum = omega arith

more_sum : (sum : ℕ) (p : List ℕ) (ps : List (List ℕ)) → sum + length (concat (p ∷ ps)) ≡ sum + length p + length (concat ps)
more_sum sum p ps = omega (arith, length-append p (concat ps))

-- one front behind no chunk, and behind one more
front_here : (sum : ℕ) (b rest : List ℕ) (f : Front) → b ≡ rest → FrontIs (sum + length (concat [])) rest f → FrontIs sum b f
front_here sum b rest f is h =
    subst (λ (w : List ℕ). FrontIs sum w f) (sym is) (subst (λ (s : ℕ). FrontIs s rest f) (no_sum sum) h)

front_later : (sum : ℕ) (p : List ℕ) (ps : List (List ℕ)) (rest : List ℕ) (f : Front) → FrontIs (sum + length (concat (p ∷ ps))) rest f
    → FrontIs (sum + length p + length (concat ps)) rest f
front_later sum p ps rest f h = subst (λ (s : ℕ). FrontIs s rest f) (more_sum sum p ps) h

-- one chunk more
pub after_chunk : (ps : List (List ℕ)) (sum : ℕ) (b rest : List ℕ) (n : ℕ) (bytes : List ℕ) → After ps sum b rest
    → FrontIs (sum + length (concat ps)) rest (chunk n bytes) → After (ps ++ (bytes ∷ [])) sum b (drop n rest)
unfolding After
after_chunk [] sum b rest n bytes x h = (n, front_here sum b rest (chunk n bytes) x h, ap (drop n) x)
after_chunk (p ∷ ps) sum b rest n bytes x h =
    (x.0, x.1, after_chunk ps (sum + length p) (drop x.0 b) rest n bytes x.2 (front_later sum p ps rest (chunk n bytes) h))

-- the rest is the last chunk with its trailer, and nothing else
pub after_last : (ps : List (List ℕ)) (sum : ℕ) (b rest : List ℕ) → After ps sum b rest
    → FrontIs (sum + length (concat ps)) rest (last (length rest)) → ChunksAt ps sum b (length b)
unfolding After ChunksAt
after_last [] sum b rest x h =
    subst (λ (n : ℕ). FrontIs sum b (last n)) (sym (ap length x)) (front_here sum b rest (last (length rest)) x h)
after_last (p ∷ ps) sum b rest x h =
    let inside : x.0 ≤ length b = (chunk_inside sum b x.0 p x.1).inside in (
      x.0,
      length (drop x.0 b),
      x.1,
      after_last ps (sum + length p) (drop x.0 b) rest x.2 (front_later sum p ps rest (last (length rest)) h),
      omega (arith, length-drop x.0 b),
    )

pub after_refused : (ps : List (List ℕ)) (sum : ℕ) (b rest : List ℕ) (f : Fault) → After ps sum b rest
    → FrontIs (sum + length (concat ps)) rest (refused f) → ChunksRefused ps sum b f
unfolding After ChunksRefused
after_refused [] sum b rest f x h = front_here sum b rest (refused f) x h
after_refused (p ∷ ps) sum b rest f x h =
    (x.0, x.1, after_refused ps (sum + length p) (drop x.0 b) rest f x.2 (front_later sum p ps rest (refused f) h))

-- where the rest is open, the whole is neither a body nor refused
pub after_not_whole : (ps qs : List (List ℕ)) (sum : ℕ) (b rest : List ℕ) (n : ℕ) → After ps sum b rest
    → FrontIs (sum + length (concat ps)) rest coming → ChunksAt qs sum b n → ⊥
unfolding After ChunksAt
after_not_whole [] [] sum b rest n x h y =
    let clash : coming ≡ last n = front_unique sum b coming (last n) (front_here sum b rest coming x h) y in cc
after_not_whole [] (q ∷ qs) sum b rest n x h y =
    let clash : coming ≡ chunk y.0 q = front_unique sum b coming (chunk y.0 q) (front_here sum b rest coming x h) y.2 in cc
after_not_whole (p ∷ ps) [] sum b rest n x h y = let clash : chunk x.0 p ≡ last n = front_unique sum b (chunk x.0 p) (last n) x.1 y in cc
after_not_whole (p ∷ ps) (q ∷ qs) sum b rest n x h y =
    let same = chunk_same x.0 y.0 p q (front_unique sum b (chunk x.0 p) (chunk y.0 q) x.1 y.2) in
    after_not_whole ps qs (sum + length p) (drop x.0 b) rest y.1 x.2 (front_later sum p ps rest coming h)
    (same_rest (λ s d. ChunksAt qs s d y.1) sum b x.0 y.0 p q same.0 same.1 y.3)

pub after_not_refused : (ps qs : List (List ℕ)) (sum : ℕ) (b rest : List ℕ) (f : Fault) → After ps sum b rest
    → FrontIs (sum + length (concat ps)) rest coming → ChunksRefused qs sum b f → ⊥
unfolding After ChunksRefused
after_not_refused [] [] sum b rest f x h y =
    let clash : coming ≡ refused f = front_unique sum b coming (refused f) (front_here sum b rest coming x h) y in cc
after_not_refused [] (q ∷ qs) sum b rest f x h y =
    let clash : coming ≡ chunk y.0 q = front_unique sum b coming (chunk y.0 q) (front_here sum b rest coming x h) y.1 in cc
after_not_refused (p ∷ ps) [] sum b rest f x h y = let clash : chunk x.0 p ≡ refused f = front_unique sum b (chunk x.0 p) (refused f) x.1 y in cc
after_not_refused (p ∷ ps) (q ∷ qs) sum b rest f x h y =
    let same = chunk_same x.0 y.0 p q (front_unique sum b (chunk x.0 p) (chunk y.0 q) x.1 y.1) in
    after_not_refused ps qs (sum + length p) (drop x.0 b) rest f x.2 (front_later sum p ps rest coming h)
    (same_rest (λ s d. ChunksRefused qs s d f) sum b x.0 y.0 p q same.0 same.1 y.2)

-- the bytes of the chunks, by those of their data
pub after_size : (ps : List (List ℕ)) (sum : ℕ) (b rest : List ℕ) → After ps sum b rest → length b ≤ 1027 * length (concat ps) + length rest
unfolding After
after_size [] sum b rest x = omega (arith, ap length x)
after_size (p ∷ ps) sum b rest x =
    let first = chunk_inside sum b x.0 p x.1 in
    let later : length (drop x.0 b) ≤ 1027 * length (concat ps) + length rest = after_size ps (sum + length p) (drop x.0 b) rest x.2 in
    omega (arith, first.inside, first.some, first.room, length-drop x.0 b, length-append p (concat ps))
