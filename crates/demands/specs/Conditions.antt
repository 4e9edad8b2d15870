-- Document 01's table of refusals, as sentences: for each call its numbers in their order, each with the sentence under which it
-- is "given exactly". To be believed.
use Rattle.std.specs.Prelude.{◌≡◌, true, List, [], ◌∷◌, ◌⊎◌, ◌≢◌, ℕ, ◌+◌, ◌*◌, ◌/◌, ◌%◌, ◌<◌, length, get_or}
use Rattle.leaf.specs.Leaf.{Taken}
use Rattle.steps.specs.declared.Step.{Step}
use Rattle.steps.specs.Model.{line, made, rule01, settled}
use Rattle.steps.specs.Encoding.{first, second, in_image, step_at}
use Rattle.machine.specs.Taking.{arrived}
use Rattle.image.specs.Chain.{Has}
use Rattle.image.specs.Image.{blocks, leaves, SoundImage}
use Rattle.index.specs.Reading.{chain_of}
use Rattle.writing.specs.Writing.{target_of}
use Rattle.demands.specs.Calls.{Asked, find, listing, recovery, put, set, del, run, cut}

-- 1: "image length 0, over 65,536, or no multiple of 256"
abbrev pub BadLength : List ℕ → Type 0
BadLength l = (length l ≡ 0) ⊎ ((65536 < length l) ⊎ (length l % 256 ≢ 0))

-- 2: "put, set, del: list room under 112 words"
abbrev pub ShortList : List ℕ → Type 0
ShortList list = length list < 112

-- 3: "image not sound"
abbrev pub Unsound : List ℕ → Type 0
Unsound l = SoundImage l → ⊥

-- 4: "put: key present". "The map of a sound image is its occupied entries."
abbrev pub Present : List ℕ → ℕ → Type 0
Present l k = (v : ℕ) × Has (leaves l) (chain_of l) k v

-- 5: "find, set, del: key absent"
abbrev pub Absent : List ℕ → ℕ → Type 0
Absent l k = Present l k → ⊥

-- 6: "put: target full and all N blocks chained"
abbrev pub Among : ℕ → List ℕ → Type 0
Among b [] = ⊥
Among b (x ∷ xs) = (x ≡ b) ⊎ Among b xs

abbrev pub Full : List ℕ → ℕ → Type 0
Full l k = ((s : ℕ) → s < 14 → Taken (leaves l (target_of l k)) s) × ((b : ℕ) → b < blocks l → Among b (chain_of l))

-- 7: "run, cut: n over 56, list shorter than 2n words, or one of the first n steps malformed". "Every other pair is malformed."
abbrev pub Malformed : ℕ → List ℕ → ℕ → Type 0
Malformed size list i =
    (x : Step) → in_image size x ≡ true → first x ≡ get_or list (2 * i) 0 → second x ≡ get_or list (2 * i + 1) 0 → ⊥

abbrev pub BadSteps : ℕ → List ℕ → ℕ → Type 0
BadSteps size list n = (56 < n) ⊎ ((length list < 2 * n) ⊎ ((i : ℕ) × (i < n) × Malformed size list i))

-- 8: "recovery: either buffer under N entries"
abbrev pub ShortBuffer : List ℕ → List ℕ → List ℕ → Type 0
ShortBuffer l smallest numbers = (length smallest < blocks l) ⊎ (length numbers < blocks l)

-- 10: "cut: arrivals not one per line, or a line's number below its settled or above its made stores"
abbrev pub BadArrivals : ℕ → List ℕ → ℕ → List ℕ → Type 0
BadArrivals size list n arrivals =
    (length arrivals ≢ size / 64)
    ⊎ ((x : ℕ) × (x < size / 64)
    × ((arrived arrivals x < settled line rule01 (step_at list) n x) ⊎ (made line (step_at list) n x < arrived arrivals x)))

-- "Order: 1, 2, 8, 3, 4, 5, 6 as they apply; for run and cut 1, 7, 10."
abbrev pub Rows : Type 1
Rows = List (ℕ × Type 0)

abbrev pub conditions : Asked → Rows
conditions (find image key) = (1, BadLength image) ∷ (3, Unsound image) ∷ (5, Absent image key) ∷ []
conditions (listing image from keys values) = (1, BadLength image) ∷ (3, Unsound image) ∷ []
conditions (recovery image smallest numbers) =
    (1, BadLength image) ∷ (8, ShortBuffer image smallest numbers) ∷ (3, Unsound image) ∷ []
conditions (put image list key value) =
    (1, BadLength image) ∷ (2, ShortList list) ∷ (3, Unsound image) ∷ (4, Present image key) ∷ (6, Full image key) ∷ []
conditions (set image list key value) =
    (1, BadLength image) ∷ (2, ShortList list) ∷ (3, Unsound image) ∷ (5, Absent image key) ∷ []
conditions (del image list key) =
    (1, BadLength image) ∷ (2, ShortList list) ∷ (3, Unsound image) ∷ (5, Absent image key) ∷ []
conditions (run image list n) = (1, BadLength image) ∷ (7, BadSteps (length image) list n) ∷ []
conditions (cut image list n arrivals) =
    (1, BadLength image) ∷ (7, BadSteps (length image) list n) ∷ (10, BadArrivals (length image) list n arrivals) ∷ []

-- n's sentence holds, and no sentence before it in the order does
abbrev pub Given : ℕ → Rows → Type 0
Given n [] = ⊥
Given n (row ∷ rows) = ((row.0 ≡ n) × row.1) ⊎ ((row.1 → ⊥) × Given n rows)

abbrev pub NoneGiven : Rows → Type 0
NoneGiven [] = Unit {0}
NoneGiven (row ∷ rows) = (row.1 → ⊥) × NoneGiven rows
