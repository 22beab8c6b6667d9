-- `record::cursor::laws` meets its contract.
-- Assumes nothing.
use Rattle.record.proofs.Pushes.{shown-blank, blank-written, pushed-written, pushed-written_full, shown-all, written-all}
use Rattle.record.proofs.cursor.laws.Goals as goal

pub returns-clause-blank : goal.returns-clause-blank
returns-clause-blank c = shown-blank

pub returns-clause-none : goal.returns-clause-none
returns-clause-none c = blank-written

pub returns-clause-one_more : goal.returns-clause-one_more
returns-clause-one_more c = pushed-written

pub returns-clause-full : goal.returns-clause-full
returns-clause-full c = pushed-written_full

pub returns-clause-all : goal.returns-clause-all
returns-clause-all c = shown-all

pub returns-clause-written : goal.returns-clause-written
returns-clause-written c = written-all
