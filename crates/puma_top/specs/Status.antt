-- How a command ends.
use Rattle.std.specs.Prelude.{ℕ, ⊤}
use Rattle.puma_top.specs.declared.status.Status.{Status}
use Rattle.puma_top.specs.declared.status.Status.TheVariants.{Done, NoMemory, Usage, File, Stack, SourceFault, SinkFault, TooLong, Dial, NoAnswer, Denied}

-- the exit status of the program
abbrev pub exit_code : Status → ℕ
exit_code Done = 0
exit_code NoMemory = 1
exit_code Usage = 2
exit_code (File why) = 3
exit_code (Stack line rule) = 4
exit_code SourceFault = 6
exit_code SinkFault = 7
exit_code TooLong = 9
exit_code Dial = 12
exit_code NoAnswer = 13
exit_code (Denied denied) = 14

-- the fact, unless memory was refused
abbrev pub UnlessNoMemory : Status → Type 0 → Type 0
UnlessNoMemory Done P = P
UnlessNoMemory NoMemory P = ⊤
UnlessNoMemory Usage P = P
UnlessNoMemory (File why) P = P
UnlessNoMemory (Stack line rule) P = P
UnlessNoMemory SourceFault P = P
UnlessNoMemory SinkFault P = P
UnlessNoMemory TooLong P = P
UnlessNoMemory Dial P = P
UnlessNoMemory NoAnswer P = P
UnlessNoMemory (Denied denied) P = P

-- the fact, where the connection was not begun: the words, the file or the stack is at fault
abbrev pub OnUnread : Status → Type 0 → Type 0
OnUnread Done P = ⊤
OnUnread NoMemory P = ⊤
OnUnread Usage P = P
OnUnread (File why) P = P
OnUnread (Stack line rule) P = P
OnUnread SourceFault P = ⊤
OnUnread SinkFault P = ⊤
OnUnread TooLong P = ⊤
OnUnread Dial P = ⊤
OnUnread NoAnswer P = ⊤
OnUnread (Denied denied) P = ⊤
