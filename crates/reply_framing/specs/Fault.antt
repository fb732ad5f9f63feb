-- The reply that names a fault: it has no body, and the connection closes behind it. This project's own; the
-- status codes are those of RFC 9110, section 15, and RFC 6585, section 5.
use Rattle.std.specs.Prelude.{ℕ, ◌==◌, ◌||◌, if◌then◌else◌, List, ◌++◌, codes, decimal}
use Rattle.rack_types.specs.declared.fault.Fault.{Fault}
use Rattle.rack_types.specs.declared.fault.Fault.TheVariants.{F, T1}
use Rattle.reply_framing.specs.Head.{crlf, status_line, value_line}

-- the status of a refusal. (0 is a form that isn't built yet.)
abbrev pub refusal_status : ℕ → ℕ
refusal_status n =
    if (n == 0) || (n == 4) || (n == 10) then 501
    else if (n == 1) || (n == 2) || (n == 16) then 431
    else if (n == 12) || (n == 14) then 413
    else 400

-- the status of a fault
abbrev pub fault_status : Fault → ℕ
fault_status (F n) = refusal_status n
fault_status T1 = 408

-- how a fault is spelled
abbrev pub fault_name : Fault → List ℕ
fault_name (F n) = codes "F" ++ decimal n
fault_name T1 = codes "T1"

-- the reply that names a fault, whole
abbrev pub fault_reply : Fault → List ℕ
fault_reply fault =
    status_line (fault_status fault) ++ value_line (codes "x-puma-fault") (fault_name fault)
    ++ value_line (codes "content-length") (codes "0") ++ value_line (codes "connection") (codes "close") ++ crlf
