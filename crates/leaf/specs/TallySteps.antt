-- What one turn of the pass over the slots adds, and what the pass has told so far.
use Rattle.std.specs.Prelude.{◌≡◌, false, cond, not, List, ℕ, zero, suc, ◌+◌, ◌*◌, ◌/◌, ◌%◌, ◌^◌, ◌<◌, min, max, eqb}
use Rattle.std.proofs.Math.ListN.{get_or}
use Rattle.words.specs.Below.{count_below}
use Rattle.header.specs.Header.{fingerprint_of}
use Rattle.leaf.specs.Leaf.{Leaf, Taken}
use Rattle.leaf.specs.Tally.{wrong_at, least_to, most_to, twin_at}
use Rattle.leaf.specs.declared.tally.Tally.{Tally}

-- the tally with one more occupied slot, of that fingerprint and key
abbrev pub noted : (print key hit : ℕ) → Tally → Tally
noted print key hit t = record {
  entries = t.entries + 1;
  wrong = t.wrong + cond (not (eqb print (fingerprint_of key))) 1 0;
  least = min t.least key;
  most = max t.most key;
  hits = 2 * t.hits + hit;
}

-- and with one more vacant slot
abbrev pub passed : Tally → Tally
passed t = record {
  entries = t.entries;
  wrong = t.wrong;
  least = t.least;
  most = t.most;
  hits = 2 * t.hits;
}

-- its counts are those of so few slots that they can grow
pub record Few (t : Tally) : Type 0 where
  pub entries : t.entries < 14
  pub wrong : t.wrong < 14
  pub hits : t.hits < 16384

-- of the first n slots, the last one's bit lowest, and no more bits: a slot whose bit is 0 has no twin below
abbrev pub Hits : Leaf → ℕ → ℕ → Type 0
Hits L zero h = h ≡ 0
Hits L (suc n) h = (h % 2 ≡ 0 → twin_at L n ≡ false) × Hits L n (h / 2)

-- what the tally tells of the first n slots
pub record TellsTo (L : Leaf) (n : ℕ) (t : Tally) : Type 0 where
  pub entries : t.entries ≡ count_below L.occ n
  pub wrong : t.wrong ≡ count_below (wrong_at L) n
  pub least : t.least ≡ least_to L n
  pub most : t.most ≡ most_to L n
  pub few : t.hits < 2 ^ n
  pub alone : Hits L n t.hits

-- the fingerprints of the first n slots bear the leaf's number
abbrev pub Stamped : Leaf → ℕ → ℕ → List ℕ → Type 0
Stamped L number n stamps = (t : ℕ) → t < n → Taken L t → get_or stamps (L.fp t) 0 ≡ number
