-- What was found of the fields of one name, and of the transfer codings. This serves inner contracts alone.
use Rattle.std.specs.Prelude.{◌≡◌, ◌≢◌, ℕ, ◌<◌, nat_lt, List, [], ◌∷◌, length, Option, None, Some, Result, Ok, Err, codes}
use Rattle.std.specs.List.{flat_map}
use Rattle.rack_text.specs.Lists.{elements}
use Rattle.rack_types.specs.Fields.{values_of}
use Rattle.rack_types.specs.declared.fault.Fault.{Fault}
use Rattle.message_framing.specs.declared.fields.Occurs.{Occurs}
use Rattle.message_framing.specs.declared.fields.Occurs.TheVariants.{Never, Once, Again}
use Rattle.message_framing.specs.declared.fields.Codings.{Codings}
use Rattle.message_framing.specs.declared.fields.Found.{Found}
use Rattle.message_framing.specs.declared.fields.Framing.{Framing}
use Rattle.message_framing.specs.declared.fields.Framing.TheVariants.{Stated}
use Rattle.message_framing.specs.Framing.{ends_chunked, lengths_fault, length_by}

-- how many values there are, with the one that is alone
abbrev pub OccursAs : Occurs → List (List ℕ) → Type 0
OccursAs Never values = values ≡ []
OccursAs (Once value) values = values ≡ value.now ∷ []
OccursAs Again values = 1 < length values

-- whether there are codings, and two, and whether the last one is `chunked`
pub record CodingsAs (c : Codings) (names : List (List ℕ)) : Type 0 where
  pub some_is : c.some ≡ nat_lt 0 (length names)
  pub more_is : c.more ≡ nat_lt 1 (length names)
  pub last_is : c.ends_chunked ≡ ends_chunked names

-- the codings of some values of Transfer-Encoding, none where there is no value
abbrev pub CodingsFound : Option Codings → List (List ℕ) → Type 0
CodingsFound None values = values ≡ []
CodingsFound (Some c) values = (values ≢ []) × CodingsAs c (flat_map elements values)

-- what the fields say of host and body
pub record FoundAs (f : Found) (fields : List (List ℕ × List ℕ)) : Type 0 where
  pub host_is : OccursAs f.host (values_of (codes "host") fields)
  pub length_is : OccursAs f.length (values_of (codes "content-length") fields)
  pub codings_are : CodingsFound f.codings (values_of (codes "transfer-encoding") fields)

-- the framing that the values of Content-Length state, or their refusal
abbrev pub StatesAs : Result Framing Fault → List (List ℕ) → Type 0
StatesAs (Ok framing) values = (lengths_fault values ≡ None) × (framing ≡ Stated (length_by values))
StatesAs (Err fault) values = lengths_fault values ≡ Some fault
