-- What crates above may cite of the proofs of this one: lemmas over its public definitions.
use Rattle.std.proofs.Common.{◌≡◌, ℕ, List, refl}
use Rattle.rack_types.specs.declared.answer.Answer.{Answer}
use Rattle.rack_types.specs.declared.answer.Answer.TheVariants.{Reply, Raised, Taken}
use Rattle.rack_types.specs.Body.{Content}
use Rattle.rack_types.specs.Env.{Pairs}
use Rattle.stock_middleware.specs.declared.ware.Ware.{Ware}
use Rattle.stock_middleware.specs.declared.ware.Ware.TheVariants.{Head, ContentLength, ContentType, MethodOverride, SetHeader, Lint}
use Rattle.stock_middleware.specs.Wares.{after, before}
pub use Rattle.stock_middleware.proofs.UndoLemmas.{put_back-set_pair, CanPutBack-set_pair}

-- an answer that was raised passes unchanged
pub after-Raised : {H : Type 0} (w : Ware) (ps : Pairs) (text : List ℕ) → after {H = H} w ps (Raised text) ≡ Raised text
after-Raised Head ps text = refl
after-Raised ContentLength ps text = refl
after-Raised (ContentType kind) ps text = refl
after-Raised MethodOverride ps text = refl
after-Raised (SetHeader name value) ps text = refl
after-Raised Lint ps text = refl

-- what becomes of an answer is the same by the pairs that the application was called with and by those that came
pub after-before : {H : Type 0} (w : Ware) (ps : Pairs) (input : List ℕ) (answer : Answer Content H) → after w (before w ps input) answer ≡ after w ps answer
after-before Head ps input answer = refl
after-before ContentLength ps input answer = refl
after-before (ContentType kind) ps input answer = refl
after-before MethodOverride ps input (Reply status headers body part) = refl
after-before MethodOverride ps input (Raised text) = refl
after-before MethodOverride ps input (Taken hijacker) = refl
after-before (SetHeader name value) ps input answer = refl
after-before Lint ps input answer = refl
