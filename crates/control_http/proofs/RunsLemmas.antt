-- Runs, one behind the other.
use Rattle.std.proofs.Common.{◌≡◌, ℕ, Bool, true, false, List, [], ◌∷◌, ◌++◌, Option, Some, None, refl, ap, sym, subst, append-nil}
use Rattle.std.proofs.Math.Logic.{∥∥₁_map}
use Rattle.std.proofs.lemmas.List.{map-append}
use Rattle.hijack_core.specs.declared.never.Never.{Never}
use Rattle.master_core.specs.declared.loader.Load.{Load}
use Rattle.master_core.specs.declared.order.Order.{Order}
use Rattle.master_core.specs.State.{MasterState}
use Rattle.master_core.proofs.CallerLemmas.{slots-TakesOrder}
use Rattle.rack_types.specs.declared.answer.Answer.{Answer}
use Rattle.rack_types.specs.Body.{Content}
use Rattle.rack_types.specs.Env.{Environment}
use Rattle.rack_types.specs.Plain.{PlainBody}
use Rattle.rack_types.specs.Runner.{Asked}
use Rattle.control_http.specs.declared.seen.SlotSeen.{SlotSeen}
use Rattle.control_http.specs.declared.wish.Wish.{Wish}
use Rattle.control_http.specs.Wish.{wish_of}
use Rattle.control_http.specs.Said.{Orders}
use Rattle.control_http.specs.Runs.{Serves, Served, asked_in, answers_in}
use Rattle.control_http.proofs.ServeLemmas.{shown}

-- runs behind runs
pub served-append : (token : List ℕ) (seen : List SlotSeen) (xs ys : List (Asked × Bool)) (cs bs : List (Answer Content Never)) (m k n : MasterState)
    → Served token seen m xs cs k → Served token seen k ys bs n → Served token seen m (xs ++ ys) (cs ++ bs) n
served-append token seen [] ys [] bs m k n h g = subst (λ (x : MasterState). Served token seen x ys bs n) h g
served-append token seen [] ys (a ∷ cs) bs m k n h g = absurd h
served-append token seen ((env, true) ∷ xs) ys [] bs m k n h g = absurd h
served-append token seen ((env, true) ∷ xs) ys (a ∷ cs) bs m k n h g =
    (h.0, h.1, h.2, served-append token seen xs ys cs bs h.0 k n h.3 g)
served-append token seen ((env, false) ∷ xs) ys cs bs m k n h g = served-append token seen xs ys cs bs m k n h g

-- one run that was Ok
pub served_one : (token : List ℕ) (seen : List SlotSeen) (env : Asked) (last : Option Load) (a : Answer Content Never) (m n : MasterState)
    → Serves (wish_of token env.0) seen last m a n → Served token seen m ((env, true) ∷ []) (a ∷ []) n
served_one token seen env last a m n s = (n, s.load, s.serves, refl)

-- a run keeps the slots
orders-slots : (o : Option Order) (m n : MasterState) → Orders o m n → n.slots ≡ m.slots
orders-slots None m n h = ap (λ (x : MasterState). x.slots) h
orders-slots (Some o) m n h = slots-TakesOrder m n o h.0 h.1

pub serves-slots : (w : Wish) (seen : List SlotSeen) (last : Option Load) (m n : MasterState) (a : Answer Content Never) → Serves w seen last m a n → n.slots ≡ m.slots
serves-slots w seen last m n a s = orders-slots _ m n s.serves.orders

-- a history of one more
pub asked-snoc : (log : List (Environment × Bool)) (env : Environment) (ok : Bool)
    → asked_in (log ++ (env, ok) ∷ []) ≡ asked_in log ++ ((env.pairs, env.input.bytes), ok) ∷ []
asked-snoc log env ok = map-append _ log ((env, ok) ∷ [])

pub answers-snoc : {X : Type 0} (log : List (Answer PlainBody Never × X)) (a : Answer PlainBody Never) (x : X)
    → answers_in (log ++ (a, x) ∷ []) ≡ answers_in log ++ shown a ∷ []
answers-snoc log a x = map-append _ log ((a, x) ∷ [])

-- one run more, which was Ok or wasn't
pub served_more : {X : Type 0} (token : List ℕ) (seen : List SlotSeen) (log : List (Environment × Bool)) (env : Environment)
    (answers : List (Answer PlainBody Never × X)) (a : Answer PlainBody Never) (x : X) (last : Option Load) (given m n : MasterState)
    → ∥ Served token seen given (asked_in log) (answers_in answers) m ∥₁ → Serves (wish_of token env.pairs) seen last m (shown a) n
    → ∥ Served token seen given (asked_in (log ++ (env, true) ∷ [])) (answers_in (answers ++ (a, x) ∷ [])) n ∥₁
served_more token seen log env answers a x last given m n h s =
    rw (asked-snoc log env true, answers-snoc answers a x)
    (∥∥₁_map h (λ k. served-append token seen (asked_in log) (((env.pairs, env.input.bytes), true) ∷ []) (answers_in answers) (shown a ∷ []) given m n k
    (served_one token seen (env.pairs, env.input.bytes) last (shown a) m n s)))

pub served_none : {X : Type 0} (token : List ℕ) (seen : List SlotSeen) (log : List (Environment × Bool)) (env : Environment)
    (answers : List (Answer PlainBody Never × X)) (given m n : MasterState)
    → ∥ Served token seen given (asked_in log) (answers_in answers) m ∥₁ → n ≡ m
    → ∥ Served token seen given (asked_in (log ++ (env, false) ∷ [])) (answers_in answers) n ∥₁
served_none token seen log env answers given m n h same =
    rw (asked-snoc log env false, sym (append-nil (answers_in answers)))
    (∥∥₁_map h (λ k. served-append token seen (asked_in log) (((env.pairs, env.input.bytes), false) ∷ []) (answers_in answers) [] given m n k same))
