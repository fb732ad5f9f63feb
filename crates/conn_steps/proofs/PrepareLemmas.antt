-- A value that is there.
use Rattle.std.proofs.Common.{◌≡◌, Option, Some, subst}
use Rattle.std.specs.Prelude.{IsSomeAnd}

pub some_and_at : {A : Type 0} (P : A → Type 0) (o : Option A) (x : A) → IsSomeAnd o P → o ≡ Some x → P x
some_and_at {A} P o x h is = subst (λ (s : Option A). IsSomeAnd s P) is h
