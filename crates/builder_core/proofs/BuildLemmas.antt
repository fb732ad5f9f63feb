-- What is known of a plan that builds.
use Rattle.std.proofs.Common.{◌≡◌, ℕ, List, Some, None, refl, sym, ap, ◌∙◌, arith}
use Rattle.rack_types.specs.Env.{Pairs}
use Rattle.builder_core.specs.Build.{build_plan}
use Rattle.builder_core.specs.Builds.{Builds, HasFault, IsSmall}
use Rattle.builder_core.specs.Meaning.{Answering, meaning}
use Rattle.builder_core.specs.Nodes.{Kept, tree_of}
use Rattle.builder_core.specs.Plan.{Plan}
use Rattle.builder_core.specs.Runs.{StackRuns}
use Rattle.builder_core.specs.Tree.{Tree}
use Rattle.builder_core.specs.declared.steps.BuildFault.{BuildFault}
use Rattle.builder_core.specs.declared.steps.BuildFault.TheVariants.{TooMany, TooDeep, NoRun, NoMemory}

some-same : {A : Type 0} (x y : A) → Some x ≡ Some y → x ≡ y
some-same x y e = cc

not_none : {A : Type 0} (x : A) → Some x ≡ None → ⊥
not_none x e = cc

-- what a plan builds is one tree
pub built-one : {E : Type 0} (p : Plan E) (t u : Tree E) → Builds p t → build_plan E p None ≡ Some u → t ≡ u
built-one p t u b e = some-same t u (sym b.tree ∙ e)

-- a plan that builds has no fault but want of memory
pub built-only_memory : {E : Type 0} (p : Plan E) (t : Tree E) (f : BuildFault) → Builds p t → HasFault p f → f ≡ NoMemory
built-only_memory p t TooMany b h = absurd (omega (arith, b.small.few, h))
built-only_memory p t TooDeep b h = absurd (omega (arith, b.small.shallow, h.1))
built-only_memory p t NoRun b h = absurd (not_none t (sym b.tree ∙ h.1))
built-only_memory p t NoMemory b h = refl

-- and only want of memory keeps one that is small and has an application from being built
pub small-only_memory : {E : Type 0} (p : Plan E) (t : Tree E) (f : BuildFault) → IsSmall p → build_plan E p None ≡ Some t → HasFault p f → f ≡ NoMemory
small-only_memory p t f small e h = built-only_memory p t f (record { small = small; tree = e }) h

-- a stack that was built answers as the tree of its plan
pub built-means : {E H : Type 0} (answer : E → Answering H) (p : Plan E) (t : Tree E) (s : Kept E) → Builds p (tree_of s) → build_plan E p None ≡ Some t → (ps : Pairs) (input : List ℕ) → meaning answer (tree_of s) ps input ≡ meaning answer t ps input
built-means answer p t s b e ps input = ap (λ u. meaning answer u ps input) (built-one p (tree_of s) t b e)

-- and so does a runner over it
pub runner-means : {E H : Type 0} (answer : E → Answering H) (p : Plan E) (t : Tree E) (s : Kept E) (r : StackRuns E) → Builds p (tree_of s) → build_plan E p None ≡ Some t → r.stack ≡ s → (ps : Pairs) (input : List ℕ) → meaning answer (tree_of r.stack) ps input ≡ meaning answer t ps input
runner-means {E} answer p t s r b e is ps input =
    ap (λ (q : Kept E). meaning answer (tree_of q) ps input) is ∙ built-means answer p t s b e ps input
