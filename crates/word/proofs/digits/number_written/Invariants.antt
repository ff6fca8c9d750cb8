-- What the loop of `number_written` keeps true.
use Rattle.std.proofs.Common.{◌≡◌, length, drop}
use Rattle.word.specs.Digits.{front, number, number_after}
use Rattle.word.proofs.digits.number_written.Given as goal

-- the digits that are left, after the number so far, write the number; and they are digits
abbrev pub invariant-loop-byte : goal.invariant-loop-byte
invariant-loop-byte l =
    let rest = drop l.byte-index l.text in
    (number_after l.total rest ≡ number l.text) × (front rest ≡ length rest)
