-- `desk::command::command_of` meets its contract, a count of words at a time.
-- Assumes nothing.
use Rattle.desk.proofs.Commands.{of_count, of_no_count}
use Rattle.desk.specs.Commands.{command_of}
use borrow.Author.Rules.{rules}
use Rattle.desk.proofs.command.command_of.Goals as goal

pub returns-in-1 : goal.returns-in-1
unfolding command_of
returns-in-1 c = of_count 1 c.count.ensures.is c.in-1.is c.word-word.ensures c.bare_command.ensures

pub returns-in-2 : goal.returns-in-2
unfolding command_of
returns-in-2 c = of_count 2 c.count.ensures.is c.in-2.is c.word-word.ensures c.two_command.ensures

pub returns-in-3 : goal.returns-in-3
unfolding command_of
returns-in-3 c = of_count 3 c.count.ensures.is c.in-3.is c.word-word.ensures c.three_command.ensures

pub returns-in-4 : goal.returns-in-4
unfolding command_of
returns-in-4 c = of_count 4 c.count.ensures.is c.in-4.is c.word-word.ensures c.named.ensures

pub returns-in-7 : goal.returns-in-7
unfolding command_of
returns-in-7 c = of_count 7 c.count.ensures.is c.in-7.is c.word-word.ensures c.named-in-7.ensures

pub returns-in_default : goal.returns-in_default
returns-in_default c = of_no_count _ c.count.ensures.is (search rules) (search rules) (search rules) (search rules) (search rules)
