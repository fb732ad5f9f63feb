-- How one connection ends, by its status. This serves inner contracts alone.
use Rattle.std.specs.Prelude.{◌≡◌, ◌⊎◌, Bool, ⊤}
use Rattle.rack_outside.specs.Link.{Seen}
use Rattle.rack_outside.specs.Told.{Rose}
use Rattle.talk_core.specs.declared.ended.Why.{Why}
use Rattle.talk_core.specs.declared.ended.Why.TheVariants as why
use Rattle.stock_apps.specs.declared.app.App.{App}
use Rattle.builder_core.specs.Nodes.{tree_of}
use Rattle.builder_core.specs.Runs.{StackRuns}
use Rattle.puma_top.specs.Once.{Site, ServedAll, ServedGiven, ServedPart, ServedLess, ServedLong}
use Rattle.puma_top.specs.Seen.{SourceSeen, SinkSeen}
use Rattle.puma_top.specs.declared.status.Status.{Status}
use Rattle.puma_top.specs.declared.status.Status.TheVariants.{Done, NoMemory, Usage, File, Stack, SourceFault, SinkFault, TooLong, Dial, NoAnswer, Denied}

-- what serves, by its runner
abbrev pub site_of : StackRuns App → Bool → Site
site_of runner hijack = record { stack = tree_of runner.stack; hijack = hijack }

abbrev pub Serves : Status → Site → SourceSeen → SinkSeen → SourceSeen → SinkSeen → Type 0
Serves Done site source sink source_then sink_then = ServedAll site source_then sink_then
Serves NoMemory site source sink source_then sink_then =
    (sink_then.written ≡ sink.written) ⊎ ServedPart site source_then sink_then
Serves Usage site source sink source_then sink_then = ⊥
Serves (File why) site source sink source_then sink_then = ⊥
Serves (Stack line rule) site source sink source_then sink_then = ⊥
Serves SourceFault site source sink source_then sink_then =
    Rose source.faults source_then.faults × ServedGiven site source_then sink_then
Serves SinkFault site source sink source_then sink_then = Rose sink.faults sink_then.faults × ServedLess site source_then sink_then
Serves TooLong site source sink source_then sink_then = ServedLong site source_then sink_then
Serves Dial site source sink source_then sink_then = ⊥
Serves NoAnswer site source sink source_then sink_then = ⊥
Serves (Denied denied) site source sink source_then sink_then = ⊥

-- nobody drains, halts or times this connection
abbrev pub IsOfOnce : Why → Type 0
IsOfOnce why.Closed = ⊤
IsOfOnce why.PeerEnd = ⊤
IsOfOnce (why.Idle by) = ⊥
IsOfOnce (why.TimedOut since now) = ⊥
IsOfOnce (why.Stalled since now) = ⊥
IsOfOnce (why.Unread level) = ⊥
IsOfOnce why.ReadFailed = ⊤
IsOfOnce why.WriteFailed = ⊤
IsOfOnce (why.Halted level) = ⊥
IsOfOnce why.NoMemory = ⊤
IsOfOnce why.Hijacked = ⊤

-- the status of a connection that ended so
abbrev pub status_by : Why → Status
status_by why.Closed = Done
status_by why.PeerEnd = Done
status_by (why.Idle by) = Done
status_by (why.TimedOut since now) = Done
status_by (why.Stalled since now) = Done
status_by (why.Unread level) = Done
status_by why.ReadFailed = SourceFault
status_by why.WriteFailed = SinkFault
status_by (why.Halted level) = Done
status_by why.NoMemory = NoMemory
status_by why.Hijacked = Done

-- what a link shows of where its bytes come from, and of where they go
abbrev pub source_of : Seen → SourceSeen
source_of s = record { input = s.input; given = s.given; faults = s.failed_reads }

abbrev pub sink_of : Seen → SinkSeen
sink_of s = record { written = s.sent; faults = s.failed_writes }
