-- "P1 to P10 are proved by one statement over a table of cases": document 01's "Bench cases".
use Rattle.std.specs.Prelude.{◌≡◌, List, [], ◌∷◌, ◌++◌, ℕ, ◌+◌, ◌*◌, get_or, replicate}
use Rattle.words.specs.Bools.{bit}
use Rattle.words.specs.Words.{reads}
use Rattle.machine.specs.Taking.{store_word, run_of, cut_of}
use Rattle.image.specs.Image.{leaves}
use Rattle.index.specs.Reading.{find_of, recovery_of}
use Rattle.writing.specs.Writing.{Outcome}
use Rattle.demands.specs.Demand2.{Call, put, del, answered}

-- ---- what is done, and what it tells

-- What a case has come to: the image, the last list made, and the line writes of the calls so far.
pub record State : Type 0 where
  pub image : List ℕ
  pub list : List ℕ
  pub lines : ℕ

pub data Act : Type 0 where
  -- the call makes its list: answer, steps, line writes, word writes
  makes : Call → Act
  -- and the list is run whole
  does : Call → Act
  -- "line writes in all"
  total : Act
  -- answer and value
  find : ℕ → Act
  -- answer, leaves and entries
  recovery : Act
  -- the last list's first n steps, cut with these arrivals: answer
  cut : ℕ → List ℕ → Act
  -- a word of the image, by its number
  word : ℕ → Act
  -- a slot of a block: 1 where it is occupied, and its key
  slot : ℕ → ℕ → Act
  -- the whole image
  bytes : Act
  -- a step of the last list: its two words
  step : ℕ → Act

abbrev pub counts : Outcome → List ℕ
counts o = o.answer ∷ o.steps ∷ o.lines ∷ o.words ∷ []

abbrev pub told : Act → State → List ℕ
told (makes call) s = counts (answered call s.image s.list)
told (does call) s = counts (answered call s.image s.list)
told total s = s.lines ∷ []
told (find k) s = let f = find_of s.image k in f.answer ∷ f.value ∷ []
told recovery s =
    let r = (recovery_of s.image (replicate 4 0) (replicate 4 0)).told in r.answer ∷ r.leaves ∷ r.entries ∷ []
told (cut n arrivals) s = (cut_of s.image s.list n arrivals).answer ∷ []
told (word p) s = reads s.image p ∷ []
told (slot b t) s = let L = leaves s.image b in bit (L.occ t) ∷ L.key t ∷ []
told bytes s = s.image
told (step i) s = get_or s.list (2 * i) 0 ∷ get_or s.list (2 * i + 1) 0 ∷ []

abbrev pub left : Act → State → State
left (makes call) s =
    let o = answered call s.image s.list in
    record { image = s.image; list = o.list; lines = s.lines + o.lines }
left (does call) s =
    let o = answered call s.image s.list in
    record { image = (run_of s.image o.list o.steps).image; list = o.list; lines = s.lines + o.lines }
left (cut n arrivals) s = record { image = (cut_of s.image s.list n arrivals).image; list = s.list; lines = s.lines }
left total s = s
left (find k) s = s
left recovery s = s
left (word p) s = s
left (slot b t) s = s
left bytes s = s
left (step i) s = s

-- ---- a case: N blocks, zero but for these words, and the acts with what each tells

pub record Row : Type 0 where
  pub act : Act
  pub tells : List ℕ

pub record Case : Type 0 where
  pub blocks : ℕ
  pub stored : List (ℕ × ℕ)
  pub rows : List Row

abbrev pub image : List (ℕ × ℕ) → List ℕ → List ℕ
image [] l = l
image (w ∷ ws) l = image ws (store_word l w.0 w.1)

abbrev pub start : Case → State
start c = record { image = image c.stored (replicate (256 * c.blocks) 0); list = replicate 112 0; lines = 0 }

abbrev pub Tells : List Row → State → Type 0
Tells [] s = Unit {0}
Tells (r ∷ rs) s = (told r.act s ≡ r.tells) × Tells rs (left r.act s)

-- each act of the case tells what the table says
abbrev pub Passes : Case → Type 0
Passes c = Tells c.rows (start c)

abbrev pub Every : List Case → Type 0
Every [] = Unit {0}
Every (c ∷ cs) = Passes c × Every cs

-- ---- the table

abbrev pub row : Act → List ℕ → Row
row act tells = record { act = act; tells = tells }

abbrev pub case : ℕ → List (ℕ × ℕ) → List Row → Case
case n ws rows = record { blocks = n; stored = ws; rows = rows }

-- a put of the key that is accepted, with the value 100
abbrev pub puts : ℕ → ℕ → ℕ → ℕ → Row
puts k steps lines words = row (does (put k 100)) (0 ∷ steps ∷ lines ∷ words ∷ [])

-- a refused call
abbrev pub refuses : Call → ℕ → Row
refuses call n = row (does call) (n ∷ 0 ∷ 0 ∷ 0 ∷ [])

-- an occupied slot of a block, with its key
abbrev pub holds : ℕ → ℕ → ℕ → Row
holds b s k = row (slot b s) (1 ∷ k ∷ [])

-- "Keys 1 to 14 put in order: the puts of 4 and 8 take 14 steps, (..) that of 12 takes 12, the other eleven 5 each; 17 line
-- writes in all."
abbrev pub fourteen : List Row
fourteen =
    puts 1 5 1 3 ∷ puts 2 5 1 3 ∷ puts 3 5 1 3 ∷ puts 4 14 2 10 ∷ puts 5 5 1 3 ∷ puts 6 5 1 3 ∷ puts 7 5 1 3 ∷ puts 8 14 2 10
    ∷ puts 9 5 1 3 ∷ puts 10 5 1 3 ∷ puts 11 5 1 3 ∷ puts 12 12 2 8 ∷ puts 13 5 1 3 ∷ puts 14 5 1 3 ∷ row total (17 ∷ []) ∷ []

-- block 0 empty, with block b behind it by the sibling that its bit array names; block b with the one entry 1, 100
abbrev pub behind : ℕ → List (ℕ × ℕ)
behind b = (30, b) ∷ (32 * b, 65537) ∷ (32 * b + 2, 1) ∷ (32 * b + 3, 100) ∷ []

abbrev pub behind_alt : ℕ → List (ℕ × ℕ)
behind_alt b = (0, 32768) ∷ (31, b) ∷ (32 * b, 65537) ∷ (32 * b + 2, 1) ∷ (32 * b + 3, 100) ∷ []

abbrev pub last : ℕ
last = 18446744073709551615

abbrev pub table : List Case
table =
    -- P1 "Blank, put 1: word 0 becomes 65,537."
    case 1 [] (puts 1 5 1 3 ∷ row (word 0) (65537 ∷ []) ∷ [])
    -- P2, P3; "P4 Then put 15: 42 steps, 6 line writes, 34 word writes; 8 to 14 in slots 7 to 13, 15 in slot 6."
    ∷ case 2 [] (
    fourteen ++ puts 15 42 6 34
    ∷ holds 1 6 15 ∷ holds 1 7 8 ∷ holds 1 8 9 ∷ holds 1 9 10 ∷ holds 1 10 11 ∷ holds 1 11 12 ∷ holds 1 12 13 ∷ holds 1 13 14 ∷ []
    )
    -- "P5 Put 0 in its place: 47 steps, 7 line writes, 37 word writes, 0 in slot 0 of block 0."
    ∷ case 2 [] (fourteen ++ puts 0 47 7 37 ∷ holds 0 0 0 ∷ [])
    -- "P6 The same with N = 1: answer 6."
    ∷ case 1 [] (fourteen ++ refuses (put 15 100) 6 ∷ refuses (put 0 100) 6 ∷ [])
    -- "P7 Del of the only entry of a second leaf: one store, at 240 or 248 of block 0."
    ∷ case 2 (behind 1) (row (makes (del 1)) (0 ∷ 3 ∷ 1 ∷ 1 ∷ []) ∷ row (step 0) (240 ∷ 0 ∷ []) ∷ [])
    ∷ case 2 (behind_alt 1) (row (makes (del 1)) (0 ∷ 3 ∷ 1 ∷ 1 ∷ []) ∷ row (step 0) (248 ∷ 0 ∷ []) ∷ [])
    -- "P8 Sibling equal to N: answer 3. N − 1 pointing at a good leaf: sound."
    ∷ case 2 ((30, 2) ∷ []) (row recovery (3 ∷ 0 ∷ 0 ∷ []) ∷ row (find 1) (3 ∷ 0 ∷ []) ∷ refuses (put 1 100) 3 ∷ [])
    ∷ case 4 ((0, 32768) ∷ (31, 4) ∷ []) (row recovery (3 ∷ 0 ∷ 0 ∷ []) ∷ [])
    ∷ case 2 (behind 1) (row recovery (0 ∷ 2 ∷ 1 ∷ []) ∷ row (find 1) (0 ∷ 100 ∷ []) ∷ [])
    ∷ case 4 (behind_alt 3) (row recovery (0 ∷ 2 ∷ 1 ∷ []) ∷ row (find 1) (0 ∷ 100 ∷ []) ∷ [])
    -- "P9 Key 2^64 − 1 and key 0 are ordinary keys; fingerprint 0 for both": word 0 has their bits and no other
    ∷ case 1 [] (
    puts last 5 1 3 ∷ puts 0 5 1 3 ∷ row (word 0) (3 ∷ []) ∷ row (find last) (0 ∷ 100 ∷ []) ∷ row (find 0) (0 ∷ 100 ∷ [])
    ∷ row (does (del last)) (0 ∷ 3 ∷ 1 ∷ 1 ∷ []) ∷ row (find last) (5 ∷ 0 ∷ []) ∷ row (find 0) (0 ∷ 100 ∷ []) ∷ []
    )
    -- "P10 Cut with n = 0 and all arrivals 0: image unchanged."
    ∷ case 1 [] (
    row (makes (put 1 100)) (0 ∷ 5 ∷ 1 ∷ 3 ∷ []) ∷ row (cut 0 (replicate 4 0)) (0 ∷ []) ∷ row bytes (replicate 256 0) ∷ []
    )
    ∷ case 2 (behind 1) (
    row (makes (del 1)) (0 ∷ 3 ∷ 1 ∷ 1 ∷ []) ∷ row (cut 0 (replicate 8 0)) (0 ∷ [])
    ∷ row bytes (image (behind 1) (replicate 512 0)) ∷ []
    )
    ∷ []
