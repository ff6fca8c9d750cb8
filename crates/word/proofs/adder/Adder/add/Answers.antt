-- The laws hold whatever is added.
use Rattle.word.proofs.SumLaws.{sum_laws}
use Rattle.word.proofs.adder.Adder.add.Goals as goal

pub returns-then-b-limit-clause-laws : goal.returns-then-b-limit-clause-laws
returns-then-b-limit-clause-laws c = sum_laws

pub returns-else-a-limit-clause-laws : goal.returns-else-a-limit-clause-laws
returns-else-a-limit-clause-laws c = sum_laws
