-- What the pulling part of a framer holds. This serves inner contracts alone.
use Rattle.std.specs.Prelude.{◌≡◌, ◌<◌, ◌≤◌, ◌+◌, ℕ, Bool, true, false, List, [], ◌∷◌, ◌++◌, length, Option, None, Some, Result, Ok, Err, ◌⊎◌}
use Rattle.std.specs.declared.alloc.AllocError.{AllocError}
use Rattle.rack_types.specs.declared.body.Kind.TheVariants.{Enumerable}
use Rattle.rack_types.specs.declared.rules.BodyRule.{BodyRule}
use Rattle.rack_types.specs.Body.{Content, TakesPiece, Ends}
use Rattle.rack_types.specs.BodyRules.{left_behind, end_rule}
use Rattle.reply_framing.specs.declared.types.Form.{Form}
use Rattle.reply_framing.specs.declared.types.Form.TheVariants.{Bare, Stated, Known, Chunked, Closing}
use Rattle.reply_framing.specs.declared.pull.Asked.{Asked}
use Rattle.reply_framing.specs.declared.pull.Asked.TheVariants.{Piece, End}
use Rattle.reply_framing.specs.declared.pull.Pull.{Pull}
use Rattle.reply_framing.specs.declared.pull.Stage.{Stage}
use Rattle.reply_framing.specs.declared.pull.Stage.TheVariants.{Pulling, Ended, Broken}
use Rattle.reply_framing.specs.Body.{body_bytes, rule_in, wire, last_bytes}
use Rattle.reply_framing.specs.Coming.{Rest}
use Rattle.reply_framing.specs.Framed.{pending}
use Rattle.reply_framing.specs.PullOrder.{IsRestOf}
use Rattle.reply_framing.specs.PullOrder as order

-- one ask of a body, with the piece that it lends behind it
abbrev pub AsksTo : Result Asked AllocError → Content → List ℕ → Content → Type 0
AsksTo (Ok (Piece len)) old piece new = TakesPiece old piece new × (length piece ≡ len)
AsksTo (Ok (End raised)) old piece new = Ends raised old new
AsksTo (Err e) old piece new = (old.sure ≡ false) × (new ≡ old)

-- one ask takes no piece, or the next one, whose bytes are then what comes before those of the others
abbrev pub TakesNext : Rest → Rest → Type 0
TakesNext old new =
    ((new.waiting ≡ old.waiting) × (new.left ≡ old.left))
    ⊎ ((piece : List ℕ) × (old.waiting ≡ piece ∷ new.waiting) × (new.left ≡ left_behind old.left (length piece))
    × IsRestOf new.bytes (wire new.form piece ++ order.later new))

-- what comes stays the same, and one piece is taken at most
pub record TakesOne (old new : Rest) : Type 0 where
  pub bytes : new.bytes ≡ old.bytes
  pub rule : new.rule ≡ old.rule
  pub sure : new.sure ≡ old.sure
  pub form : new.form ≡ old.form
  pub raises : new.raises ≡ old.raises
  pub next : TakesNext old new

abbrev pub empty_content : Content
empty_content = record { pieces = []; raises = false; known = None; kind = Enumerable; sure = true }

-- by the stage: before the body told its end its bytes are to come, and its rule is to be broken
abbrev pub later_by : Stage → List ℕ → List ℕ
later_by Pulling bytes = bytes
later_by Ended bytes = []
later_by (Broken rule) bytes = []

abbrev pub rule_by : Stage → Option BodyRule → Option BodyRule
rule_by Pulling rule = rule
rule_by Ended rule = None
rule_by (Broken rule) other = Some rule

abbrev pub steps_by : Stage → ℕ
steps_by Pulling = 1
steps_by Ended = 0
steps_by (Broken rule) = 0

-- the stage at which a body is that ended so
abbrev pub stage_of : Option BodyRule → Stage
stage_of None = Ended
stage_of (Some rule) = Broken rule

-- asking for what is to come never wants memory: the body never does, or it isn't sent and so is never asked
abbrev pub sure_by : Form → Bool → Bool
sure_by Bare sure = true
sure_by Stated sure = sure
sure_by Known sure = sure
sure_by Chunked sure = sure
sure_by Closing sure = sure

-- what stands behind the last piece, where no rule was broken
abbrev pub last_by : Option BodyRule → Form → List ℕ
last_by None form = last_bytes form
last_by (Some rule) form = []

module _ {B : Type 0} (content : B → Content) (taken : B → List ℕ) where
  abbrev pub content_of : Option B → Content
  content_of None = empty_content
  content_of (Some body) = content body

  -- the piece that the body lends
  abbrev pub lent : Option B → List ℕ
  lent None = []
  lent (Some body) = taken body

  abbrev pub later : Pull B → List ℕ
  later p = body_bytes p.form p.watch (content_of p.body).pieces (content_of p.body).raises

  abbrev pub rest_of : Pull B → Rest
  rest_of p = record {
    bytes = pending p.framed (lent p.body) ++ later_by p.stage (later p);
    rule = rule_by p.stage (rule_in p.form p.watch (content_of p.body).pieces (content_of p.body).raises);
    sure = sure_by p.form (content_of p.body).sure;
    form = p.form;
    left = p.watch;
    waiting = (content_of p.body).pieces;
    raises = (content_of p.body).raises;
  }

  -- no more of the piece is left than it has, and a body that isn't sent is not asked
  pub record IsIn (p : Pull B) : Type 0 where
    pub within : p.framed.piece_left ≤ length (lent p.body)
    pub bare : p.form ≡ Bare → p.stage ≡ Ended

  -- how often the body may still be asked
  abbrev pub asks_left : Pull B → ℕ
  asks_left p = length (content_of p.body).pieces + steps_by p.stage

  -- one ask: nothing that is to come changes, at most one piece is taken
  abbrev pub Takes : Pull B → Result Unit AllocError → Pull B → Type 0
  Takes old (Ok u) new = TakesOne (rest_of old) (rest_of new) × (asks_left new < asks_left old)
  Takes old (Err e) new = (rest_of new ≡ rest_of old) × ((rest_of old).sure ≡ false)

  -- the end is framed, and the stage tells it
  pub record EndsSo (old : Pull B) (raised : Bool) (new : Pull B) : Type 0 where
    pub form : new.form ≡ old.form
    pub watch : new.watch ≡ old.watch
    pub body : new.body ≡ old.body
    pub framed : (piece : List ℕ) → pending new.framed piece ≡ last_by (end_rule old.watch raised) old.form
    pub none : new.framed.piece_left ≡ 0
    pub stage : new.stage ≡ stage_of (end_rule old.watch raised)
