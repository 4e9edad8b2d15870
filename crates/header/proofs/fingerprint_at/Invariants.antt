-- What is mixed so far, with the exclusive-or of the bytes that are left, is the fingerprint.
use Rattle.std.proofs.Common.{◌≡◌, ◌-◌, ◌/◌, ◌^◌}
use Rattle.std.specs.Int.Bits.{bit_xor}
use Rattle.words.specs.Words.{word_at}
use Rattle.header.specs.Header.{xor_of_bytes, fingerprint_of}
use Rattle.header.proofs.fingerprint_at.Given as goal

abbrev pub invariant-loop-i : goal.invariant-loop-i
invariant-loop-i l =
    bit_xor l.mix (xor_of_bytes (8 - l.i) (word_at l.bytes l.place / 256 ^ l.i)) ≡ fingerprint_of (word_at l.bytes l.place)
