-- What stands of a framer's parts. This serves inner contracts alone.
use Rattle.std.specs.Prelude.{◌≡◌, ℕ, Bool, true, false, List, Option, is_some, not, ◌||◌, if◌then◌else◌}
use Rattle.rack_types.specs.Body.{Content}
use Rattle.reply_framing.specs.declared.types.After.{After}
use Rattle.reply_framing.specs.declared.types.After.TheVariants.{Keep, Close, Hijack}
use Rattle.reply_framing.specs.declared.types.Form.TheVariants.{Bare}
use Rattle.reply_framing.specs.declared.pull.Pull.{Pull}
use Rattle.reply_framing.specs.Pull.{IsIn}

abbrev pub is_hijack : After → Bool
is_hijack Keep = false
is_hijack Close = false
is_hijack Hijack = true

-- what becomes of the connection behind the reply to a broken answer
abbrev pub broken_after : Bool → Bool → After
broken_after persists last = if not persists || last then Close else Keep

-- a hijacker is there exactly at a hijack, where no body is asked
pub record IsFramer {B H : Type 0} (content : B → Content) (taken : B → List ℕ) (pull : Pull B) (after : After) (hijacker : Option H) : Type 0 where
  pub within : IsIn content taken pull
  pub held : is_some hijacker ≡ is_hijack after
  pub silent : after ≡ Hijack → pull.form ≡ Bare
