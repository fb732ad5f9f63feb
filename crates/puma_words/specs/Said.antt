-- The command that contracts see as what the words say.
use Rattle.puma_words.specs.Words as words
use Rattle.puma_words.specs.declared.command.Command.{Command}
use Rattle.puma_words.specs.declared.command.Command.TheVariants.{Once, Check}

-- what the code's command says
abbrev pub said : Command → words.Command
said (Once hijack stack) = words.once hijack stack.now
said (Check stack) = words.check stack.now
