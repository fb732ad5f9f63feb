-- Rows worked by computation.
use Rattle.std.proofs.Common.{◌≡◌, true, false, refl, [], ◌∷◌, Some, None, codes}
use Rattle.puma_words.specs.Words.{check, command_of, once}

plain : command_of (codes "once" ∷ codes "a" ∷ []) ≡ Some (once true (codes "a"))
plain = refl

closed : command_of (codes "once" ∷ codes "--no-hijack" ∷ codes "a" ∷ []) ≡ Some (once false (codes "a"))
closed = refl

option_behind : command_of (codes "once" ∷ codes "a" ∷ codes "--no-hijack" ∷ []) ≡ Some (once false (codes "a"))
option_behind = refl

behind_the_end : command_of (codes "once" ∷ codes "--" ∷ codes "--no-hijack" ∷ []) ≡ Some (once true (codes "--no-hijack"))
behind_the_end = refl

end_as_name : command_of (codes "check" ∷ codes "--" ∷ codes "--" ∷ []) ≡ Some (check (codes "--"))
end_as_name = refl

hyphen : command_of (codes "check" ∷ codes "-" ∷ []) ≡ Some (check (codes "-"))
hyphen = refl

empty : command_of (codes "check" ∷ [] ∷ []) ≡ Some (check [])
empty = refl

no_words : command_of [] ≡ None
no_words = refl

no_name : command_of (codes "once" ∷ []) ≡ None
no_name = refl

two_names : command_of (codes "once" ∷ codes "a" ∷ codes "b" ∷ []) ≡ None
two_names = refl

twice : command_of (codes "once" ∷ codes "--no-hijack" ∷ codes "--no-hijack" ∷ codes "a" ∷ []) ≡ None
twice = refl

with_value : command_of (codes "once" ∷ codes "--no-hijack=x" ∷ codes "a" ∷ []) ≡ None
with_value = refl

option_of_once : command_of (codes "check" ∷ codes "--no-hijack" ∷ codes "a" ∷ []) ≡ None
option_of_once = refl

option_first : command_of (codes "--no-hijack" ∷ codes "once" ∷ codes "a" ∷ []) ≡ None
option_first = refl

help : command_of (codes "--help" ∷ []) ≡ None
help = refl
