-- What is mixed so far, with the exclusive-or of the bytes that are left, is the fingerprint.
use Rattle.std.proofs.Common.{◌≡◌, ◌-◌}
use Rattle.std.specs.Int.Bits.{bit_xor}
use Rattle.header.specs.Header.{xor_of_bytes, fingerprint_of}
use Rattle.header.proofs.fingerprint_of.Given as goal

abbrev pub invariant-loop : goal.invariant-loop
invariant-loop l = bit_xor l.mix (xor_of_bytes (8 - l.counter) l.rest) ≡ fingerprint_of l.key
