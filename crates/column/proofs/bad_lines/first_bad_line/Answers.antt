-- The number of the first bad line is one more than its place.
use Rattle.std.proofs.Common.{arith, rules, tests, inl}
use Rattle.std.proofs.lemmas.Iterator.{IsFirst-from_position}
use Rattle.std.proofs.lemmas.Iterator.Consumers.{YieldsList-from_first}
use Rattle.column.specs.Column.{lines, IsWord, Bad}
use Rattle.column.proofs.Cuts.{length-lines}
use Rattle.column.proofs.Columns.{all_words, first_bad}
use Rattle.column.proofs.bad_lines.first_bad_line.Goals as goal

pub position-requires-clause-fits : goal.position-requires-clause-fits
position-requires-clause-fits c = inl (omega (arith, length-lines c.args.text.now))

pub map-requires : goal.map-requires
map-requires c = λ before is_some _ _.
    let within = rw is_some at c.position.ensures.bound in
    omega (arith, within, length-lines c.args.text.now)

pub returns : goal.returns
returns c =
    let found = IsFirst-from_position c.position.new.self _ c.position.result Bad IsWord c.position.ensures.ran
    (YieldsList-from_first (λ x. x.now) (λ s. lines s.0.now) (lines c.args.text.now) cc)
    (λ x q k. search (rules, tests)) (λ x q k. search (rules, tests)) in
    search (rules, all_words, first_bad)
