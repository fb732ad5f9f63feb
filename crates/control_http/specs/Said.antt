-- What the control server answers, and the order that it gives for it (after Puma's control server; statuses and
-- texts are this project's own).
use Rattle.std.specs.Prelude.{◌≡◌, ℕ, Bool, true, false, not, List, [], ◌∷◌, ◌++◌, Option, Some, None, codes, decimal}
use Rattle.hijack_core.specs.declared.never.Never.{Never}
use Rattle.master_core.specs.declared.loader.Load.{Load}
use Rattle.master_core.specs.declared.loader.Load.TheVariants as load
use Rattle.master_core.specs.declared.order.Order.{Order}
use Rattle.master_core.specs.declared.order.Order.TheVariants as order
use Rattle.master_core.specs.declared.order.Reply.{Reply}
use Rattle.master_core.specs.State.{MasterState}
use Rattle.master_core.specs.Orders.{TakesOrder, is_busy, busy_with}
use Rattle.rack_types.specs.declared.answer.Answer.{Answer}
use Rattle.rack_types.specs.declared.answer.Answer.TheVariants as answer
use Rattle.rack_types.specs.declared.body.Kind.TheVariants.{Enumerable}
use Rattle.rack_types.specs.Body.{Content}
use Rattle.rack_types.specs.Plain.{plain_content}
use Rattle.control_http.specs.declared.seen.SlotSeen.{SlotSeen}
use Rattle.control_http.specs.declared.wish.Wish.{Wish}
use Rattle.control_http.specs.declared.wish.Wish.TheVariants as wish
use Rattle.control_http.specs.Field.{field}
use Rattle.control_http.specs.Stats.{stats}

-- a status, and a text in JSON
pub record Said : Type 0 where
  pub status : ℕ
  pub json : List ℕ

abbrev pub forbidden : Said
forbidden = record { status = 403; json = codes "{\"status\":\"forbidden\"}" }

abbrev pub not_found : Said
not_found = record { status = 404; json = codes "{\"status\":\"not found\"}" }

abbrev pub other_method : Said
other_method = record { status = 405; json = codes "{\"status\":\"method\"}" }

-- the order is taken
abbrev pub done : Said
done = record { status = 200; json = codes "{\"status\":\"ok\"}" }

-- a phased restart finds the master busy: the phase before the order that isn't done, and the target
unfoldable pub busy : ℕ → ℕ → Said
busy phase target = record {
  status = 409;
  json = field (codes "{\"phase\":") (decimal phase) ++ field (codes ",\"status\":\"busy\",\"target\":") (decimal target) ++ codes "}";
}

-- the stack file breaks this rule S at this line
unfoldable pub broken : ℕ → ℕ → Said
broken line rule = record {
  status = 422;
  json = field (codes "{\"line\":") (decimal line) ++ field (codes ",\"rule\":\"S") (decimal rule) ++ codes "\",\"status\":\"refused\"}";
}

-- there is no stack file to be read, for this reason
unfoldable pub no_file : List ℕ → Said
no_file reason = record { status = 422; json = field (codes "{\"file\":\"") reason ++ codes "\",\"status\":\"refused\"}" }

-- a phased restart, by what was loaded for it
abbrev pub loaded : Load → Said
loaded load.Read = done
loaded (load.Bad line rule) = broken line rule
loaded load.Absent = no_file (codes "absent")
loaded load.Long = no_file (codes "long")
loaded load.Failed = no_file (codes "failed")

-- a phased restart, by what the master is busy with, if it is, and else by what was loaded
abbrev pub restarted : Option (ℕ × ℕ) → Load → Said
restarted (Some (phase, target)) load = busy phase target
restarted None load = loaded load

-- what is answered, by the master at entry
abbrev pub said : Wish → MasterState → List SlotSeen → Load → Said
said wish.Forbidden m seen load = forbidden
said wish.NotFound m seen load = not_found
said wish.OtherMethod m seen load = other_method
said wish.Stats m seen load = record { status = 200; json = stats m seen }
said wish.Stop m seen load = done
said wish.Halt m seen load = done
said wish.PhasedRestart m seen load = restarted (busy_with m) load

-- something is loaded: for a phased restart, where the master isn't busy
abbrev pub loads : Wish → MasterState → Bool
loads wish.PhasedRestart m = not (is_busy m)
loads other m = false

-- the order that is given
abbrev pub order_of : Wish → Load → Option Order
order_of wish.Stop load = Some order.Stop
order_of wish.Halt load = Some order.Halt
order_of wish.PhasedRestart load = Some (order.Phased load)
order_of other load = None

-- the master m is n behind it, whether it takes the order or not
abbrev pub Orders : Option Order → MasterState → MasterState → Type 0
Orders None m n = n ≡ m
Orders (Some o) m n = (r : Reply) × TakesOrder m o r n

-- the answer: one header, and a body of one piece whose length is known
abbrev pub answer_of : Said → Answer Content Never
answer_of s =
    answer.Reply s.status ((codes "content-type", codes "application/json" ∷ []) ∷ []) (plain_content (s.json ∷ []) false true Enumerable) None
