-- What the code reads of an order's command line.
use Rattle.std.proofs.Common.{◌≡◌, ◌∙◌, true, inl, inr, refl, sym, ap, subst, List, [], ◌∷◌, Option, Some, None, codes}
use Rattle.std.specs.Prelude.{option_map}
use Rattle.clap.specs.Words.{App, HasMatchesOf, Kinds, Row, fault_of, first_of, subcommand_of}
use Rattle.clap.specs.Matches.{first_value, subcommand_name_of}
use Rattle.clap.specs.Walk.{rows_of}
use Rattle.clap.specs.Simple.{subcommand_rows_of, is_simple}
use Rattle.clap.specs.Faults.{is_simple_and_free}
use Rattle.clap.specs.Kinds.{HasKind, IsAmong}
use Rattle.clap.specs.Values.{kind_of}
use Rattle.clap.specs.declared.error.Error.{Error}
use Rattle.clap.specs.declared.error.kind.ErrorKind.{ErrorKind}
use Rattle.clap.specs.declared.error.kind.ErrorKind.TheVariants as kind
use Rattle.clap.specs.declared.parser.matches.ArgMatches.{ArgMatches}
use Rattle.clap.specs.declared.parser.matches.Found.{Found}
use Rattle.clap.proofs.WalkLemmas.{first_value-rows}
use Rattle.puma_words.specs.Words.{Text}
use Rattle.puma_words.specs.Control.{Control, control_of, order_met, order_with, unless_refused}
use Rattle.puma_words.specs.ControlProgram.{control_app}

pub simple : is_simple control_app ≡ true
simple = refl

pub free : is_simple_and_free control_app ≡ true
free = refl

cleared : (kinds : Kinds) (said : Option Control) → kinds ≡ [] → said ≡ unless_refused kinds said
cleared [] said is = refl
cleared (k ∷ ks) said is = cc

refused : (k : ErrorKind) (kinds : Kinds) (said : Option Control) → IsAmong k kinds → None ≡ unless_refused kinds said
refused k [] said among = absurd among
refused k (x ∷ xs) said among = refl

-- words that were read
pub read : (app : App) (words : List Text) (m : ArgMatches) (answer : Option Control) → app ≡ control_app → HasMatchesOf app words m
    → (is_simple_and_free app ≡ true → fault_of app words ≡ []) → answer ≡ order_met (subcommand_rows_of m) → answer ≡ control_of words
read app words m answer is has none said =
    let met : subcommand_rows_of m ≡ subcommand_of control_app words = (subst (λ a. HasMatchesOf a words m) is has simple).1 in
    let clear : fault_of control_app words ≡ [] = subst (λ a. is_simple_and_free a ≡ true → fault_of a words ≡ []) is none free in
    said ∙ ap order_met met ∙ cleared (fault_of control_app words) (order_met (subcommand_of control_app words)) clear

-- words that were refused
pub unread : (app : App) (words : List Text) (e : Error) → app ≡ control_app → (is_simple_and_free app ≡ true → HasKind (fault_of app words) e)
    → (kind_of e ≡ kind.OutOfMemory → ⊥) → None ≡ control_of words
unread app words e is has other = elim (subst (λ a. is_simple_and_free a ≡ true → HasKind (fault_of a words) e) is has free) [
  | inl memory ↦ absurd (other memory)
  | inr among ↦ refused (kind_of e) (fault_of control_app words) (order_met (subcommand_of control_app words)) among
]

-- what is found for an argument
pub value_is : (found : Found) (id : Text) (value : Option Text) → value ≡ first_value found id → value ≡ first_of id (rows_of found)
value_is found id value is = is ∙ first_value-rows found id

order_by : (met : Option (Text × List Row)) (rows : List Row) → Some rows ≡ option_map (λ p. p.1) met
    → order_met met ≡ order_with (first_of (codes "address") rows) (first_of (codes "token") rows) (first_of (codes "order") rows)
order_by None rows is = cc
order_by (Some met) rows is =
    let same : rows ≡ met.1 = cc in
    ap (λ (r : List Row). order_with (first_of (codes "address") r) (first_of (codes "token") r) (first_of (codes "order") r)) (sym same)

-- the order, by what the code reads
pub order_read : (m : ArgMatches) (found : Found) (address token order : Option Text) → Some (rows_of found) ≡ option_map (λ p. p.1) (subcommand_rows_of m)
    → address ≡ first_value found (codes "address") → token ≡ first_value found (codes "token") → order ≡ first_value found (codes "order")
    → order_met (subcommand_rows_of m) ≡ order_with address token order
order_read m found address token order rows address_is token_is order_is =
    order_by (subcommand_rows_of m) (rows_of found) rows
    ∙ ap (λ (a : Option Text). order_with a (first_of (codes "token") (rows_of found)) (first_of (codes "order") (rows_of found)))
    (sym (value_is found (codes "address") address address_is))
    ∙ ap (λ (t : Option Text). order_with address t (first_of (codes "order") (rows_of found))) (sym (value_is found (codes "token") token token_is))
    ∙ ap (λ (o : Option Text). order_with address token o) (sym (value_is found (codes "order") order order_is))
