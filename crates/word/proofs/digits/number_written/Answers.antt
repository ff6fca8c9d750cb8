-- `number_written` meets its contract.
use Rattle.std.proofs.Common.{◌≡◌, ◌+◌, ◌-◌, ◌*◌, ◌<◌, ◌≤◌, ◌^◌, get_or, sym, ◌∙◌, arith}
use Rattle.std.proofs.lemmas.List.{at_drop_all}
use Rattle.word.specs.Digits.{number, number_after}
use Rattle.word.proofs.Octal.{digit_bound, number_small}
use Rattle.word.proofs.digits.number_written.Goals as goal
use Rattle.word.proofs.digits.number_written.Goals.{In-loop-byte}

-- with the next digit the number so far is not above the whole one, which is that of a word
read : (c : In-loop-byte) → (c.loop-byte.total * 8 + (get_or c.args.text.now c.loop-byte.byte-index 0 - 48) ≤ number c.args.text.now) × (number c.args.text.now < 2 ^ 36)
read c = (digit_bound _ _ _ _ c.loop-byte-test.true c.loop-byte.invariant.0, number_small _ c.requires.digits c.requires.twelve)

pub overflow_mul-total : goal.overflow_mul-total
overflow_mul-total c = let m = read (goal.at.overflow_mul-total c).In-loop-byte in omega arith

pub overflow_add-total : goal.overflow_add-total
overflow_add-total c = let m = read (goal.at.overflow_add-total c).In-loop-byte in omega arith

pub returns : goal.returns
returns c =
    let t = c.args.text.now in
    let e : c.loop-byte.total ≡ number t = sym (at_drop_all (number_after c.loop-byte.total) t c.loop-byte.byte-index (omega arith)) ∙ c.loop-byte.invariant.0 in
    record { value = e; bound = omega (arith, number_small t c.requires.digits c.requires.twelve) }
