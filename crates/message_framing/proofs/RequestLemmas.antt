-- Requests and refusals over longer and shorter lists.
use Rattle.std.proofs.Common.{◌≡◌, ℕ, ◌+◌, ◌-◌, ◌<◌, ◌≤◌, Bool, true, false, MatchBool, List, [], ◌∷◌, ◌++◌, length, take, drop, Option, None, Some, inl, inr, refl, ap, sym, ◌∙◌, subst, arith, length-append, length-take, length-drop}
use Rattle.std.proofs.lemmas.Bool.{cases_lt}
use Rattle.std.proofs.lemmas.List.{take-append-drop, take-append-le, drop-append-le, drop-take, take-take, take_all}
use Rattle.httparse.specs.Grammar.{RequestHead}
use Rattle.httparse.proofs.GrammarLemmas.{request_unique}
use Rattle.rack_types.specs.declared.fault.Fault.{Fault}
use Rattle.rack_types.specs.declared.fault.Fault.TheVariants.{F}
use Rattle.rack_types.specs.Request.{Parts, framed}
use Rattle.message_framing.specs.declared.fields.Framing.{Framing}
use Rattle.message_framing.specs.declared.scan.Line.TheVariants.{Skipping}
use Rattle.message_framing.specs.HeadText.{head_len, head_text}
use Rattle.message_framing.specs.Head.{IsHead, IsRequestOf, head_fault, head_framing, is_chunked, request_with}
use Rattle.message_framing.specs.Target.{target_of}
use Rattle.message_framing.specs.Body.{IsBody, BodyRefusal}
use Rattle.message_framing.specs.Request.{head_limit, head_within, has_too_many_lines, FaultOrBody, HeadRefusal, TextRefusal, RefusalAt, Refusal, IsGoodHead, IsGoodText, RequestAt, IsRequest, Begins, Wanting}
use Rattle.message_framing.specs.Places.{StandsIn, StandsHead, RefusedIn, RefusesHead}
use Rattle.message_framing.specs.Held.{EndsHead}
use Rattle.message_framing.proofs.HeadTextLemmas.{scan_head}
use Rattle.message_framing.proofs.ScanLemmas.{ends_stays, ends_take, ends_within}
use Rattle.message_framing.proofs.ChunkLemmas.{body_unique, body_not_refused, body_refusal_unique, body_refusal_stays}

-- a head text that has ended stays ended
pub head_stays : (a c : List ℕ) (n : ℕ) → head_len a ≡ Some n → head_len (a ++ c) ≡ Some n
head_stays a c n is = sym (scan_head (a ++ c)) ∙ ends_stays Skipping a c n (scan_head a ∙ is)

-- it ends within the bytes
pub head_inside : (a : List ℕ) (n : ℕ) → head_len a ≡ Some n → n ≤ length a
head_inside a n is = (ends_within Skipping a n (scan_head a ∙ is)).1

-- a prefix that holds it shows it
pub head_take : (a : List ℕ) (n m : ℕ) → head_len a ≡ Some n → n ≤ m → head_len (take m a) ≡ Some n
head_take a n m is fits = sym (scan_head (take m a)) ∙ ends_take Skipping a n m (scan_head a ∙ is) fits

-- what a prefix shows, the whole shows
pub head_from_take : (a : List ℕ) (n m : ℕ) → head_len (take m a) ≡ Some n → head_len a ≡ Some n
head_from_take a n m is = subst (λ (w : List ℕ). head_len w ≡ Some n) (take-append-drop m a) (head_stays (take m a) (drop m a) n is)

-- an end within the limit
pub record EndsAt (b : List ℕ) (n : ℕ) : Type 0 where
  pub len : head_len b ≡ Some n
  pub inside : n ≤ length b
  pub limit : n ≤ head_limit

pub ends_at : (b : List ℕ) (n : ℕ) → head_within b ≡ Some n → EndsAt b n
ends_at b n is =
    let inside : n ≤ length (take head_limit b) = head_inside (take head_limit b) n is in record {
      len = head_from_take b n head_limit is;
      inside = omega (arith, inside, length-take head_limit b);
      limit = omega (arith, inside, length-take head_limit b);
    }

pub ends_so : (b : List ℕ) (n : ℕ) → head_len b ≡ Some n → n ≤ head_limit → head_within b ≡ Some n
ends_so b n is fits = head_take b n head_limit is fits

-- the prefix that ends there has its end there
pub whole_end : (b : List ℕ) (n : ℕ) → head_within b ≡ Some n → head_within (take n b) ≡ Some n
whole_end b n is =
    let at = ends_at b n is in
    let order : n ≤ n = omega arith in
    ends_so (take n b) n (head_take b n n at.len order) at.limit

-- bytes behind do not move the end
pub within_append : (b c : List ℕ) (n : ℕ) → head_within b ≡ Some n → head_within (b ++ c) ≡ Some n
within_append b c n is = let at = ends_at b n is in ends_so (b ++ c) n (head_stays b c n at.len) at.limit

-- a text is one head at most
pub head_unique : (t : List ℕ) (h k : RequestHead) → IsHead t h → IsHead t k → h ≡ k
head_unique t h k x y = (request_unique t h k [] [] x.0 y.0).0

-- a refusal stays, whatever follows
head_refusal_stays : (t x c : List ℕ) (f : Fault) → HeadRefusal t x f → HeadRefusal t (x ++ c) f
head_refusal_stays t x c f (inl h) = inl h
head_refusal_stays t x c f (inr h) = inr (h.0, h.1, stays (head_fault h.0) h.2)
  where
    stays : (o : Option Fault) → FaultOrBody o h.0 x f → FaultOrBody o h.0 (x ++ c) f
    stays None y = body_refusal_stays (head_framing h.0) x c f y
    stays (Some g) y = y

text_refusal_stays : (t x c : List ℕ) (f : Fault) → TextRefusal t x f → TextRefusal t (x ++ c) f
text_refusal_stays t x c f h = go (has_too_many_lines t) h
  where
    go : (many : Bool) → MatchBool many (f ≡ F 2) (HeadRefusal t x f) → MatchBool many (f ≡ F 2) (HeadRefusal t (x ++ c) f)
    go true h = h
    go false h = head_refusal_stays t x c f h

pub refusal_stays : (b c : List ℕ) (f : Fault) → Refusal b f → Refusal (b ++ c) f
refusal_stays b c f h = go (head_within b) refl h
  where
    go : (o : Option ℕ) → head_within b ≡ o → RefusalAt o b f → Refusal (b ++ c) f
    go None is h =
        let longer : head_limit ≤ length b = omega (arith, h.0) in
        let same : head_within (b ++ c) ≡ None = ap head_len (take-append-le head_limit b c longer) ∙ is in
        subst (λ (o : Option ℕ). RefusalAt o (b ++ c) f) (sym same) (omega (arith, h.0, length-append b c), h.1)
    go (Some n) is h =
        let inside = (ends_at b n is).inside in
        let same : head_within (b ++ c) ≡ Some n = within_append b c n is in
        subst (λ (o : Option ℕ). RefusalAt o (b ++ c) f) (sym same)
        (subst (λ (t : List ℕ). TextRefusal (head_text t) (drop n (b ++ c)) f) (sym (take-append-le n b c inside))
        (subst (λ (x : List ℕ). TextRefusal (head_text (take n b)) x f) (sym (drop-append-le n b c inside))
        (text_refusal_stays (head_text (take n b)) (drop n b) c f h)))

-- a request has its head text, and behind it its body
pub record HasHead (t : List ℕ) (r : Parts) : Type 0 where
  pub n : ℕ
  pub end : head_within t ≡ Some n
  pub inside : n ≤ length t
  pub good : IsGoodText (head_text (take n t)) (drop n t) r

pub request_head : (t : List ℕ) (r : Parts) → IsRequest t r → HasHead t r
request_head t r h = go (head_within t) refl h
  where
    go : (o : Option ℕ) → head_within t ≡ o → RequestAt o t r → HasHead t r
    go None is h = absurd h
    go (Some n) is h = record { n = n; end = is; inside = (ends_at t n is).inside; good = h }

-- a list that begins with a request has its head text there, and behind it the request's body
pub record BeginsAt (b : List ℕ) (m : ℕ) (r : Parts) : Type 0 where
  pub n : ℕ
  pub end : head_within b ≡ Some n
  pub order : n ≤ m
  pub inside : m ≤ length b
  pub good : IsGoodText (head_text (take n b)) (take (m - n) (drop n b)) r

pub begins_at : (b : List ℕ) (m : ℕ) (r : Parts) → Begins b m r → BeginsAt b m r
begins_at b m r h =
    let whole = request_head (take m b) r h.1 in
    let n : ℕ = whole.n in
    let size : length (take m b) ≡ m = length-take m b ∙ omega (arith, h.0) in
    let order : n ≤ m = omega (arith, whole.inside, size) in
    let front : take n (take m b) ≡ take n b = take-take n m b order in
    let sum : m ≡ n + (m - n) = omega (arith, order) in
    let rest : drop n (take m b) ≡ take (m - n) (drop n b) = ap (λ k. drop n (take k b)) sum ∙ drop-take n (m - n) b in record {
      n = n;
      end = subst (λ (w : List ℕ). head_within w ≡ Some n) (take-append-drop m b) (within_append (take m b) (drop m b) n whole.end);
      order = order;
      inside = h.0;
      good = subst (λ (w : List ℕ). IsGoodText (head_text w) (take (m - n) (drop n b)) r) front
          (subst (λ (x : List ℕ). IsGoodText (head_text (take n (take m b))) x r) rest whole.good);
    }

-- a head has one request at most with a body
request_of_unique : (h k : RequestHead) (x y : List ℕ) (r q : Parts) → h ≡ k → x ≡ y → IsRequestOf h x r → IsRequestOf k y q → r ≡ q
request_of_unique h k x y r q same bodies a b =
    let both : Some a.0 ≡ Some b.0 = sym a.1 ∙ ap (λ g. target_of g.method g.target) same ∙ b.1 in
    let target : a.0 ≡ b.0 = cc in
    a.2 ∙ ap (λ g. request_with g a.0 x) same ∙ ap (λ t. request_with k t x) target ∙ ap (request_with k b.0) bodies ∙ sym b.2

-- nothing is left of a list without length
nothing_left : (xs : List ℕ) → length xs ≡ 0 → xs ≡ []
nothing_left [] is = refl
nothing_left (x ∷ xs) is = absurd (omega arith)

-- of two fronts of a list that are bodies, the longer is the shorter
body_in_order : (g : Framing) (x : List ℕ) (i j : ℕ) (u w : List ℕ) → i ≤ j → j ≤ length x → IsBody g (take i x) u → IsBody g (take j x) w
    → (i ≡ j) × (u ≡ w)
body_in_order g x i j u w order fits short long =
    let split : take i x ++ drop i (take j x) ≡ take j x =
    ap (λ v. v ++ drop i (take j x)) (sym (take-take i j x order)) ∙ take-append-drop i (take j x) in
    let same = body_unique g (take i x) (drop i (take j x)) u w short (subst (λ (v : List ℕ). IsBody g v w) (sym split) long) in
    let size : length (drop i (take j x)) ≡ 0 = ap length same.0 in
    (omega (arith, size, length-drop i (take j x), length-take j x, order, fits), same.1)

body_front_unique : (g : Framing) (x : List ℕ) (i j : ℕ) (u w : List ℕ) → i ≤ length x → j ≤ length x → IsBody g (take i x) u
    → IsBody g (take j x) w → (i ≡ j) × (u ≡ w)
body_front_unique g x i j u w left right a b = elim (cases_lt i j) [
  | inl below ↦ body_in_order g x i j u w (omega (arith, below)) right a b
  | inr above ↦ (let same = body_in_order g x j i w u above left b a in (sym same.0, sym same.1))
]

-- behind one head text, one front is a body, with one request
head_good_unique : (t x : List ℕ) (i j : ℕ) (r q : Parts) → i ≤ length x → j ≤ length x → IsGoodHead t (take i x) r → IsGoodHead t (take j x) q
    → (i ≡ j) × (r ≡ q)
head_good_unique t x i j r q left right a b =
    let same : a.0 ≡ b.0 = head_unique t a.0 b.0 a.2 b.2 in
    let body = subst (λ (h : RequestHead). IsBody (head_framing h) (take j x) b.1) (sym same) b.4 in
    let bodies = body_front_unique (head_framing a.0) x i j a.1 b.1 left right a.4 body in
    (bodies.0, request_of_unique a.0 b.0 a.1 b.1 r q same bodies.1 a.5 b.5)

-- a good head with its body is not refused, whatever follows
head_good_not_refused : (t x c : List ℕ) (r : Parts) (f : Fault) → IsGoodHead t x r → HeadRefusal t (x ++ c) f → ⊥
head_good_not_refused t x c r f a (inl b) = b.0 a.0 a.2
head_good_not_refused t x c r f a (inr b) =
    let same : b.0 ≡ a.0 = head_unique t b.0 a.0 b.1 a.2 in
    let none : head_fault b.0 ≡ None = ap head_fault same ∙ a.3 in
    let body : BodyRefusal (head_framing b.0) (x ++ c) f = subst (λ (o : Option Fault). FaultOrBody o b.0 (x ++ c) f) none b.2 in
    body_not_refused (head_framing a.0) x c a.1 f a.4 (subst (λ (h : RequestHead). BodyRefusal (head_framing h) (x ++ c) f) same body)

-- one refusal stands at most
fault_or_body_unique : (o : Option Fault) (h : RequestHead) (x : List ℕ) (f g : Fault) → FaultOrBody o h x f → FaultOrBody o h x g → f ≡ g
fault_or_body_unique None h x f g a b = body_refusal_unique (head_framing h) x f g a b
fault_or_body_unique (Some k) h x f g a b = a ∙ sym b

head_refusal_unique : (t x : List ℕ) (f g : Fault) → HeadRefusal t x f → HeadRefusal t x g → f ≡ g
head_refusal_unique t x f g (inl a) (inl b) = a.1 ∙ sym b.1
head_refusal_unique t x f g (inl a) (inr b) = absurd (a.0 b.0 b.1)
head_refusal_unique t x f g (inr a) (inl b) = absurd (b.0 a.0 a.1)
head_refusal_unique t x f g (inr a) (inr b) =
    let same : b.0 ≡ a.0 = head_unique t b.0 a.0 b.1 a.1 in
    fault_or_body_unique (head_fault a.0) a.0 x f g a.2 (subst (λ (h : RequestHead). FaultOrBody (head_fault h) h x g) same b.2)

-- the same of a text, whose lines are counted first
good_unique : (t x : List ℕ) (i j : ℕ) (r q : Parts) → i ≤ length x → j ≤ length x → IsGoodText t (take i x) r → IsGoodText t (take j x) q
    → (i ≡ j) × (r ≡ q)
good_unique t x i j r q left right a b = go (has_too_many_lines t) a b
  where
    go : (many : Bool) → MatchBool many ⊥ (IsGoodHead t (take i x) r) → MatchBool many ⊥ (IsGoodHead t (take j x) q) → (i ≡ j) × (r ≡ q)
    go true a b = absurd a
    go false a b = head_good_unique t x i j r q left right a b

good_not_refused : (t x c : List ℕ) (r : Parts) (f : Fault) → IsGoodText t x r → TextRefusal t (x ++ c) f → ⊥
good_not_refused t x c r f a b = go (has_too_many_lines t) a b
  where
    go : (many : Bool) → MatchBool many ⊥ (IsGoodHead t x r) → MatchBool many (f ≡ F 2) (HeadRefusal t (x ++ c) f) → ⊥
    go true a b = a
    go false a b = head_good_not_refused t x c r f a b

text_refusal_unique : (t x : List ℕ) (f g : Fault) → TextRefusal t x f → TextRefusal t x g → f ≡ g
text_refusal_unique t x f g a b = go (has_too_many_lines t) a b
  where
    go : (many : Bool) → MatchBool many (f ≡ F 2) (HeadRefusal t x f) → MatchBool many (g ≡ F 2) (HeadRefusal t x g) → f ≡ g
    go true a b = a ∙ sym b
    go false a b = head_refusal_unique t x f g a b

-- the laws: the request that begins a list is one, with its length; a list that begins with a
-- request is not refused; one refusal stands at most; a request stays, whatever follows
pub begins_unique : (b : List ℕ) (n m : ℕ) (r q : Parts) → Begins b n r → Begins b m q → (n ≡ m) × (r ≡ q)
begins_unique b n m r q x y =
    let left = begins_at b n r x in
    let right = begins_at b m q y in
    let both : Some left.n ≡ Some right.n = sym left.end ∙ right.end in
    let same : right.n ≡ left.n = cc in
    let good : IsGoodText (head_text (take left.n b)) (take (m - left.n) (drop left.n b)) q =
    subst (λ (k : ℕ). IsGoodText (head_text (take k b)) (take (m - k) (drop k b)) q) same right.good in
    let order : left.n ≤ m = omega (arith, same, right.order) in
    let unique = good_unique (head_text (take left.n b)) (drop left.n b) (n - left.n) (m - left.n) r q
    (omega (arith, left.inside, length-drop left.n b)) (omega (arith, right.inside, length-drop left.n b)) left.good good in
    (omega (arith, unique.0, left.order, order), unique.1)

pub begins_not_refused : (b : List ℕ) (n : ℕ) (r : Parts) (f : Fault) → Begins b n r → Refusal b f → ⊥
begins_not_refused b n r f x y =
    let at = begins_at b n r x in
    let k : ℕ = at.n in
    let refused : TextRefusal (head_text (take k b)) (drop k b) f = subst (λ (o : Option ℕ). RefusalAt o b f) at.end y in
    good_not_refused (head_text (take k b)) (take (n - k) (drop k b)) (drop (n - k) (drop k b)) r f at.good
    (subst (λ (w : List ℕ). TextRefusal (head_text (take k b)) w f) (sym (take-append-drop (n - k) (drop k b))) refused)

pub refusal_unique : (b : List ℕ) (f g : Fault) → Refusal b f → Refusal b g → f ≡ g
refusal_unique b f g x y = go (head_within b) x y
  where
    go : (o : Option ℕ) → RefusalAt o b f → RefusalAt o b g → f ≡ g
    go None x y = x.1 ∙ sym y.1
    go (Some n) x y = text_refusal_unique (head_text (take n b)) (drop n b) f g x y

pub begins_stays : (b c : List ℕ) (n : ℕ) (r : Parts) → Begins b n r → Begins (b ++ c) n r
begins_stays b c n r x =
    (omega (arith, x.0, length-append b c), subst (λ (w : List ℕ). IsRequest w r) (sym (take-append-le n b c x.0)) x.1)

-- where the head text has not ended and the limit is kept, neither stands
pub wanting : (b : List ℕ) → head_len b ≡ None → length b ≤ head_limit → Wanting b
wanting b none fits =
    let whole : take head_limit b ≡ b = take_all head_limit b fits in
    let still : head_within b ≡ None = ap head_len whole ∙ none in (
      λ n r x. (let at = begins_at b n r x in let clash : None ≡ Some at.n = sym still ∙ at.end in cc),
      λ f x. (let long : head_limit < length b = (subst (λ (o : Option ℕ). RefusalAt o b f) still x).0 in omega arith),
    )

-- past the limit without an end
pub too_long : (b : List ℕ) → head_within b ≡ None → head_limit < length b → Refusal b (F 1)
too_long b none long = subst (λ (o : Option ℕ). RefusalAt o b (F 1)) (sym none) (long, refl)

-- a whole head that is refused, with what stands behind it
pub refused_at : (b : List ℕ) (n : ℕ) (f : Fault) → head_within b ≡ Some n → TextRefusal (head_text (take n b)) (drop n b) f → Refusal b f
refused_at b n f is h = subst (λ (o : Option ℕ). RefusalAt o b f) (sym is) h

-- a request begins itself
pub begins_whole : (b : List ℕ) (r : Parts) → IsRequest b r → Begins b (length b) r
begins_whole b r is =
    let all : length b ≤ length b = omega arith in
    (all, subst (λ (w : List ℕ). IsRequest w r) (sym (take_all (length b) b all)) is)

-- no request is a proper prefix of another
pub no_longer_request : (b more : List ℕ) (r q : Parts) → IsRequest b r → IsRequest (b ++ more) q → more ≡ []
no_longer_request b more r q x y =
    let short = begins_stays b more (length b) r (begins_whole b r x) in
    let long = begins_whole (b ++ more) q y in
    let same : length b ≡ length (b ++ more) = (begins_unique (b ++ more) (length b) (length (b ++ more)) r q short long).0 in
    nothing_left more (omega (arith, same, length-append b more))

-- a head that earns no refusal, with its body behind it, is a request
stands_request : (t x u : List ℕ) (r : Parts) (g : Framing) → StandsIn t r g → IsBody g x u → IsGoodHead t x (framed u (is_chunked g) r)
unfolding request_with
stands_request t x u r g h body =
    let k = h.0 in
    let of = h.4 in
    let same : framed u (is_chunked g) r ≡ request_with k of.0 u =
    ap (λ (f : Framing). framed u (is_chunked f) r) h.3 ∙ ap (framed u (is_chunked (head_framing k))) of.2 in
    (k, u, h.1, h.2, subst (λ (f : Framing). IsBody f x u) h.3 body, (of.0, of.1, same))

pub request_of_body : (b : List ℕ) (n : ℕ) (r : Parts) (g : Framing) (x : List ℕ) → EndsHead b n r g → IsBody g (drop n b) x
    → IsRequest b (framed x (is_chunked g) r)
request_of_body b n r g x h body =
    subst (λ (o : Option ℕ). RequestAt o b (framed x (is_chunked g) r)) (sym h.end) (go (has_too_many_lines (head_text (take n b))) h.head)
  where
    go : (many : Bool) → MatchBool many ⊥ (StandsIn (head_text (take n b)) r g)
        → MatchBool many ⊥ (IsGoodHead (head_text (take n b)) (drop n b) (framed x (is_chunked g) r))
    go true stands = stands
    go false stands = stands_request (head_text (take n b)) (drop n b) x r g stands body

-- behind such a head, what the body is refused for is the refusal
stands_refused : (t x : List ℕ) (r : Parts) (g : Framing) (f : Fault) → StandsIn t r g → BodyRefusal g x f → HeadRefusal t x f
stands_refused t x r g f h refused =
    inr (h.0, h.1, subst (λ (o : Option Fault). FaultOrBody o h.0 x f) (sym h.2) (subst (λ (k : Framing). BodyRefusal k x f) h.3 refused))

pub refusal_of_body : (b : List ℕ) (n : ℕ) (r : Parts) (g : Framing) (f : Fault) → EndsHead b n r g → BodyRefusal g (drop n b) f → Refusal b f
refusal_of_body b n r g f h refused = refused_at b n f h.end (go (has_too_many_lines (head_text (take n b))) h.head)
  where
    go : (many : Bool) → MatchBool many ⊥ (StandsIn (head_text (take n b)) r g)
        → MatchBool many (f ≡ F 2) (HeadRefusal (head_text (take n b)) (drop n b) f)
    go true stands = absurd stands
    go false stands = stands_refused (head_text (take n b)) (drop n b) r g f stands refused

-- behind such a head, a request has a body so framed, and a refusal is the body's
stands_good : (t x : List ℕ) (r q : Parts) (g : Framing) → StandsHead t r g → IsGoodText t x q → (u : List ℕ) × IsBody g x u
stands_good t x r q g h good = go (has_too_many_lines t) h good
  where
    go : (many : Bool) → MatchBool many ⊥ (StandsIn t r g) → MatchBool many ⊥ (IsGoodHead t x q) → (u : List ℕ) × IsBody g x u
    go true h good = absurd h
    go false h good =
        let same : good.0 ≡ h.0 = head_unique t good.0 h.0 good.2 h.1 in
        let framing : head_framing good.0 ≡ g = ap head_framing same ∙ sym h.3 in
        (good.1, subst (λ (k : Framing). IsBody k x good.1) framing good.4)

stands_head_refused : (t x : List ℕ) (r : Parts) (g : Framing) (f : Fault) → StandsIn t r g → HeadRefusal t x f → BodyRefusal g x f
stands_head_refused t x r g f h (inl a) = absurd (a.0 h.0 h.1)
stands_head_refused t x r g f h (inr a) =
    let same : a.0 ≡ h.0 = head_unique t a.0 h.0 a.1 h.1 in
    let none : head_fault a.0 ≡ None = ap head_fault same ∙ h.2 in
    let framing : head_framing a.0 ≡ g = ap head_framing same ∙ sym h.3 in
    subst (λ (k : Framing). BodyRefusal k x f) framing (subst (λ (o : Option Fault). FaultOrBody o a.0 x f) none a.2)

stands_text_refused : (t x : List ℕ) (r : Parts) (g : Framing) (f : Fault) → StandsHead t r g → TextRefusal t x f → BodyRefusal g x f
stands_text_refused t x r g f h refused = go (has_too_many_lines t) h refused
  where
    go : (many : Bool) → MatchBool many ⊥ (StandsIn t r g) → MatchBool many (f ≡ F 2) (HeadRefusal t x f) → BodyRefusal g x f
    go true h refused = absurd h
    go false h refused = stands_head_refused t x r g f h refused

-- behind such a head, where no front of what follows is a body, and it is not refused, nothing stands
pub wanting_body : (b : List ℕ) (n : ℕ) (r : Parts) (g : Framing) → EndsHead b n r g → ((m : ℕ) (x : List ℕ) → IsBody g (take m (drop n b)) x → ⊥)
    → ((f : Fault) → BodyRefusal g (drop n b) f → ⊥) → Wanting b
wanting_body b n r g h no_body no_refusal = (
  λ m q x. (
      let at = begins_at b m q x in
      let both : Some at.n ≡ Some n = sym at.end ∙ h.end in
      let same : at.n ≡ n = cc in
      let good : IsGoodText (head_text (take n b)) (take (m - n) (drop n b)) q =
      subst (λ (k : ℕ). IsGoodText (head_text (take k b)) (take (m - k) (drop k b)) q) same at.good in
      let body = stands_good (head_text (take n b)) (take (m - n) (drop n b)) r q g h.head good in
      no_body (m - n) body.0 body.1
      ),
  λ f x. (
      let refused : TextRefusal (head_text (take n b)) (drop n b) f = subst (λ (o : Option ℕ). RefusalAt o b f) h.end x in
      no_refusal f (stands_text_refused (head_text (take n b)) (drop n b) r g f h.head refused)
      ),
)

-- a head that is refused
refused_head : (t x : List ℕ) (f : Fault) → RefusedIn t f → HeadRefusal t x f
refused_head t x f (inl h) = inl h
refused_head t x f (inr h) = inr (h.0, h.1, subst (λ (o : Option Fault). FaultOrBody o h.0 x f) (sym h.2) refl)

pub refusal_of_head : (b : List ℕ) (n : ℕ) (f : Fault) → head_within b ≡ Some n → RefusesHead (head_text (take n b)) f → Refusal b f
refusal_of_head b n f is h = refused_at b n f is (go (has_too_many_lines (head_text (take n b))) h)
  where
    go : (many : Bool) → MatchBool many (f ≡ F 2) (RefusedIn (head_text (take n b)) f)
        → MatchBool many (f ≡ F 2) (HeadRefusal (head_text (take n b)) (drop n b) f)
    go true h = h
    go false h = refused_head (head_text (take n b)) (drop n b) f h

-- such a head stays, whatever follows
pub ends_head_stays : (b c : List ℕ) (n : ℕ) (r : Parts) (g : Framing) → EndsHead b n r g → EndsHead (b ++ c) n r g
ends_head_stays b c n r g h = record {
  end = within_append b c n h.end;
  head = subst (λ (w : List ℕ). StandsHead (head_text w) r g) (sym (take-append-le n b c (ends_at b n h.end).inside)) h.head;
}

-- it is a head, as the definitions name it
pub ends_head_is : (b : List ℕ) (n : ℕ) (r : Parts) (g : Framing) → EndsHead b n r g
    → (h : RequestHead) × IsHead (head_text (take n b)) h × (head_fault h ≡ None) × (g ≡ head_framing h)
ends_head_is b n r g h = go (has_too_many_lines (head_text (take n b))) h.head
  where
    go : (many : Bool) → MatchBool many ⊥ (StandsIn (head_text (take n b)) r g)
        → (h : RequestHead) × IsHead (head_text (take n b)) h × (head_fault h ≡ None) × (g ≡ head_framing h)
    go true stands = absurd stands
    go false stands = (stands.0, stands.1, stands.2, stands.3)
