-- What a place is.
use Rattle.std.specs.Prelude.{◌≡◌, ◌⊎◌, ⊤}
use Rattle.talk_core.specs.declared.ended.Why.TheVariants as why
use Rattle.conn_steps.specs.declared.at.At.{At}
use Rattle.conn_steps.specs.declared.at.At.TheVariants as at
use Rattle.conn_steps.specs.declared.state.State.{State}
use Rattle.conn_steps.specs.declared.state.State.TheVariants as state

-- bytes are owed: a reply is under way, or what a hijacker said is in the ring
abbrev pub IsSaying : {B H : Type 0} → At B H → Type 0
IsSaying {B} {H} at.Reading = ⊥
IsSaying {B} {H} at.Asked = ⊥
IsSaying {B} {H} (at.Refused f) = ⊥
IsSaying {B} {H} (at.Answering framer) = ⊤
IsSaying {B} {H} (at.Writing keeps) = ⊤
IsSaying {B} {H} (at.Handing h) = ⊤
IsSaying {B} {H} at.Refusing = ⊤
IsSaying {B} {H} (at.Listening h) = ⊥
IsSaying {B} {H} (at.Speaking h) = ⊤
IsSaying {B} {H} at.Parting = ⊤
IsSaying {B} {H} (at.Over why) = ⊥

-- the place as the owner sees it
abbrev pub state_at : {B H : Type 0} → At B H → State
state_at {B} {H} at.Reading = state.Reading
state_at {B} {H} at.Asked = state.Ready
state_at {B} {H} (at.Refused f) = state.Ready
state_at {B} {H} (at.Answering framer) = state.Answering
state_at {B} {H} (at.Writing keeps) = state.Answering
state_at {B} {H} (at.Handing h) = state.Answering
state_at {B} {H} at.Refusing = state.Answering
state_at {B} {H} (at.Listening h) = state.Hijacked
state_at {B} {H} (at.Speaking h) = state.Hijacked
state_at {B} {H} at.Parting = state.Hijacked
state_at {B} {H} (at.Over why) = state.Over

-- a framer is there
abbrev pub IsFraming : {B H : Type 0} → At B H → Type 0
IsFraming {B} {H} at.Reading = ⊥
IsFraming {B} {H} at.Asked = ⊥
IsFraming {B} {H} (at.Refused f) = ⊥
IsFraming {B} {H} (at.Answering framer) = ⊤
IsFraming {B} {H} (at.Writing keeps) = ⊥
IsFraming {B} {H} (at.Handing h) = ⊥
IsFraming {B} {H} at.Refusing = ⊥
IsFraming {B} {H} (at.Listening h) = ⊥
IsFraming {B} {H} (at.Speaking h) = ⊥
IsFraming {B} {H} at.Parting = ⊥
IsFraming {B} {H} (at.Over why) = ⊥

-- a hijacker has the connection, and is to be told more
abbrev pub IsHearing : {B H : Type 0} → At B H → Type 0
IsHearing {B} {H} at.Reading = ⊥
IsHearing {B} {H} at.Asked = ⊥
IsHearing {B} {H} (at.Refused f) = ⊥
IsHearing {B} {H} (at.Answering framer) = ⊥
IsHearing {B} {H} (at.Writing keeps) = ⊥
IsHearing {B} {H} (at.Handing h) = ⊥
IsHearing {B} {H} at.Refusing = ⊥
IsHearing {B} {H} (at.Listening h) = ⊤
IsHearing {B} {H} (at.Speaking h) = ⊥
IsHearing {B} {H} at.Parting = ⊥
IsHearing {B} {H} (at.Over why) = ⊥

-- a hijacker takes the connection over behind a reply
abbrev pub IsHanding : {B H : Type 0} → At B H → Type 0
IsHanding {B} {H} at.Reading = ⊥
IsHanding {B} {H} at.Asked = ⊥
IsHanding {B} {H} (at.Refused f) = ⊥
IsHanding {B} {H} (at.Answering framer) = ⊥
IsHanding {B} {H} (at.Writing keeps) = ⊥
IsHanding {B} {H} (at.Handing h) = ⊤
IsHanding {B} {H} at.Refusing = ⊥
IsHanding {B} {H} (at.Listening h) = ⊥
IsHanding {B} {H} (at.Speaking h) = ⊥
IsHanding {B} {H} at.Parting = ⊥
IsHanding {B} {H} (at.Over why) = ⊥

-- the place behind what a hijacker was told that has the connection and is to leave: nothing more is asked of it
abbrev pub dismissed_at : {B H : Type 0} → At B H → At B H
dismissed_at {B} {H} at.Reading = at.Reading
dismissed_at {B} {H} at.Asked = at.Asked
dismissed_at {B} {H} (at.Refused f) = at.Refused f
dismissed_at {B} {H} (at.Answering framer) = at.Answering framer
dismissed_at {B} {H} (at.Writing keeps) = at.Writing keeps
dismissed_at {B} {H} (at.Handing h) = at.Handing h
dismissed_at {B} {H} at.Refusing = at.Refusing
dismissed_at {B} {H} (at.Listening h) = at.Over why.Hijacked
dismissed_at {B} {H} (at.Speaking h) = at.Parting
dismissed_at {B} {H} at.Parting = at.Parting
dismissed_at {B} {H} (at.Over reason) = at.Over reason

-- a read may be made
abbrev pub MayRead : {B H : Type 0} → At B H → Type 0
MayRead {B} {H} a = (a ≡ at.Reading) ⊎ IsHearing a
