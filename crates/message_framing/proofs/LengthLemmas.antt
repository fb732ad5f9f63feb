-- A length that a head states is within the limit.
use Rattle.std.proofs.Common.{◌≡◌, ℕ, ◌≤◌, Bool, true, false, not, nat_lt, if◌then◌else◌, List, [], ◌∷◌, Option, None, Some, refl, arith, codes}
use Rattle.std.specs.Str.{bytes_eq}
use Rattle.std.proofs.lemmas.Bool.{ltb-false}
use Rattle.httparse.specs.Grammar.{RequestHead}
use Rattle.rack_text.specs.Decimal.{is_decimal, decimal_value}
use Rattle.rack_types.specs.declared.fault.Fault.TheVariants.{F}
use Rattle.rack_types.specs.declared.limits.Version.{Version}
use Rattle.rack_types.specs.Fields.{values_of}
use Rattle.message_framing.specs.declared.fields.Framing.TheVariants as framing
use Rattle.message_framing.specs.Framing.{body_limit, is_host_right, length_fault, lengths_fault, body_fault, fields_fault, framing_by, framing_of, length_by}
use Rattle.message_framing.specs.Head.{head_fault, head_framing, fault_with, fields_of, version_of}
use Rattle.message_framing.specs.Target.{Target, target_of}

-- one Content-Length that earns no refusal is within the limit
length_within : (value : List ℕ) → length_fault value ≡ None → decimal_value value ≤ body_limit
length_within value is = go (is_decimal value) (nat_lt body_limit (decimal_value value)) refl is
  where
    go : (digits above : Bool) → nat_lt body_limit (decimal_value value) ≡ above
        → (if not digits then Some (F 11) else if above then Some (F 12) else None) ≡ None → decimal_value value ≤ body_limit
    go false above so none = absurd (let clash : Some (F 11) ≡ None = none in cc)
    go true true so none = absurd (let clash : Some (F 12) ≡ None = none in cc)
    go true false so none = ltb-false body_limit (decimal_value value) so

lengths_within : (values : List (List ℕ)) → lengths_fault values ≡ None → length_by values ≤ body_limit
lengths_within [] is = omega arith
lengths_within (value ∷ []) is = length_within value is
lengths_within (value ∷ next ∷ more) is = absurd (let clash : Some (F 11) ≡ None = is in cc)

-- a length that is stated is within the limit
body_within : (v : Version) (transfer lengths : List (List ℕ)) (m : ℕ) → body_fault v transfer lengths ≡ None
    → framing.Stated m ≡ framing_by transfer lengths → m ≤ body_limit
body_within v [] lengths m is stated =
    let same : m ≡ length_by lengths = cc in
    omega (arith, same, lengths_within lengths is)
body_within v (value ∷ more) lengths m is stated = absurd (let clash : framing.Stated m ≡ framing.Chunked = stated in cc)

fields_within : (v : Version) (fields : List (List ℕ × List ℕ)) (m : ℕ) → fields_fault v fields ≡ None → framing.Stated m ≡ framing_of fields → m ≤ body_limit
unfolding fields_fault framing_of
fields_within v fields m is stated = go (is_host_right v (values_of (codes "host") fields)) is
  where
    go : (b : Bool) → (if not b then Some (F 6) else body_fault v (values_of (codes "transfer-encoding") fields) (values_of (codes "content-length") fields)) ≡ None
        → m ≤ body_limit
    go true none = body_within v (values_of (codes "transfer-encoding") fields) (values_of (codes "content-length") fields) m none stated
    go false none = absurd (let clash : Some (F 6) ≡ None = none in cc)

pub head_states : (h : RequestHead) (m : ℕ) → head_fault h ≡ None → framing.Stated m ≡ head_framing h → m ≤ body_limit
unfolding head_fault
head_states h m none stated = go (bytes_eq h.method (codes "CONNECT")) (target_of h.method h.target) none
  where
    go : (connect : Bool) (target : Option Target) → (if connect then Some (F 4) else fault_with target h) ≡ None → m ≤ body_limit
    go true target is = absurd (let clash : Some (F 4) ≡ None = is in cc)
    go false None is = absurd (let clash : Some (F 5) ≡ None = is in cc)
    go false (Some target) is = fields_within (version_of h.minor) (fields_of h) m is stated

-- a head that earns no refusal has a target of some form
pub head_has_target : (h : RequestHead) → head_fault h ≡ None → (t : Target) × (target_of h.method h.target ≡ Some t)
unfolding head_fault
head_has_target h none = go (bytes_eq h.method (codes "CONNECT")) (target_of h.method h.target) refl none
  where
    go : (connect : Bool) (target : Option Target) → target_of h.method h.target ≡ target → (if connect then Some (F 4) else fault_with target h) ≡ None
        → (t : Target) × (target_of h.method h.target ≡ Some t)
    go true target is none = absurd (let clash : Some (F 4) ≡ None = none in cc)
    go false None is none = absurd (let clash : Some (F 5) ≡ None = none in cc)
    go false (Some t) is none = (t, is)
