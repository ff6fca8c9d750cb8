-- The cut at the first newline.
use Rattle.std.proofs.Common.{◌≡◌, ℕ, ◌+◌, not, length, refl, sym, ◌==◌, arith, rules, take_all}
use Rattle.std.proofs.lemmas.List.{take_rest, drop_all}
use Rattle.std.proofs.lemmas.List.Sums.{prefix_len_is}
use Rattle.column.specs.Column.{newline, line_length}
use Rattle.column.proofs.lines.cut_at_newline.Goals as goal

pub returns-in-Some : goal.returns-in-Some
returns-in-Some c =
    let text = c.args.text.now in
    let found : line_length text ≡ c.in-Some.end = prefix_len_is (λ (b : ℕ). not (b == newline)) text c.in-Some.end 0 (search rules) (search rules) (search rules) in
    rw found (record { line = refl; left = take_rest text (c.in-Some.end + 1) })

pub returns-in-None : goal.returns-in-None
returns-in-None c =
    let text = c.args.text.now in
    let none : line_length text ≡ length text = prefix_len_is (λ (b : ℕ). not (b == newline)) text (length text) 0 (omega arith) (search rules) (search rules) in
    rw none (record { line = sym (take_all (length text) text (omega arith)); left = sym (drop_all (length text + 1) text (omega arith)) })
