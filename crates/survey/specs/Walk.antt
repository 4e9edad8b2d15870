-- The walk along the chain as a function of the leaves I of an image of N blocks and of the key sought.
use Rattle.std.specs.Prelude.{Bool, true, false, cond, not, List, [], ◌∷◌, ◌≡◌, ℕ, zero, suc, ◌+◌, ◌<◌, leb, eqb, length, get_or, Option, Some, None}
use Rattle.words.specs.Update.{upd}
use Rattle.words.specs.Bools.{both}
use Rattle.words.specs.Below.{count_below}
use Rattle.header.specs.Header.{is_locked}
use Rattle.leaf.specs.Leaf.{Leaf}
use Rattle.leaf.specs.Search.{smallest_of, count}
use Rattle.leaf.specs.Tally.{wrong_at, at_most, most_to, twins}
use Rattle.leaf.specs.declared.tally.Tally.{Tally}
use Rattle.survey.specs.Marks.{blocks_in, is_in}
use Rattle.survey.specs.declared.walk.Fault.{Fault}
use Rattle.survey.specs.declared.walk.Fault.TheVariants.{Far, Again, Locked, Bare, WrongPrint, Twin, Low}
use Rattle.survey.specs.declared.walk.Stage.{Stage}
use Rattle.survey.specs.declared.walk.Stage.TheVariants.{GoesOn, Ended, Broken}
use Rattle.survey.specs.declared.marks.Marks.{Marks}
use Rattle.survey.specs.declared.walk.Progress.{Progress}
use Rattle.survey.specs.declared.walk.Walk.{Walk}

-- request [1]'s numbers
abbrev pub fault_number : Fault → ℕ
fault_number Far = 31
fault_number Again = 32
fault_number Locked = 33
fault_number Bare = 34
fault_number WrongPrint = 35
fault_number Twin = 36
fault_number Low = 37

-- .. 0 where there is no fault
abbrev pub number_told : Option Fault → ℕ
number_told (Some f) = fault_number f
number_told None = 0

abbrev pub stage_number : Stage → ℕ
stage_number GoesOn = 0
stage_number Ended = 1
stage_number (Broken f) = fault_number f

-- The stage: 0 while the walk goes on, 1 where the chain has ended, else the fault. The leaf at hand and the one before it; the last
-- leaf with a key at most the one sought, and the leaf before that; how many leaves and entries were passed, their largest key, and
-- the blocks met.
pub record State : Type 0 where
  pub stage : ℕ
  pub at : ℕ
  pub prev : ℕ
  pub target : ℕ
  pub before : ℕ
  pub leaves : ℕ
  pub entries : ℕ
  pub last : ℕ
  pub met : ℕ → Bool

-- on the way, with the blocks met
abbrev pub state_in : Progress → Marks → State
state_in w met = record {
  stage = stage_number w.stage;
  at = w.at;
  prev = w.prev;
  target = w.target;
  before = w.before;
  leaves = w.leaves;
  entries = w.entries;
  last = w.last;
  met = is_in (blocks_in met);
}

abbrev pub state_of : Walk → State
state_of w = state_in w.end w.met

abbrev pub stopped : ℕ → State → State
stopped fault st = record {
  stage = fault;
  at = st.at;
  prev = st.prev;
  target = st.target;
  before = st.before;
  leaves = st.leaves;
  entries = st.entries;
  last = st.last;
  met = st.met;
}

-- on to the block next, where so many keys of the leaf at hand are at most the one sought
abbrev pub moved : (next entries reached most : ℕ) → State → State
moved next entries reached most st = record {
  stage = cond (eqb next 0) 1 0;
  at = next;
  prev = st.at;
  target = cond (eqb reached 0) st.target st.at;
  before = cond (eqb reached 0) st.before st.prev;
  leaves = st.leaves + 1;
  entries = st.entries + entries;
  last = cond (eqb entries 0) st.last most;
  met = upd st.met next true;
}

-- 31 active sibling not below N, 32 active sibling not 0 and naming this leaf or an earlier one, 33 lock set, 34 empty leaf other than
-- block 0, 35 wrong fingerprint, 36 key equal to one in a lower slot, 37 key not above all earlier leaves: the first of them
abbrev pub first_fault : (far again locked bare wrong twin low : Bool) → ℕ
first_fault far again locked bare wrong twin low =
    cond far 31 (cond again 32 (cond locked 33 (cond bare 34 (cond wrong 35 (cond twin 36 (cond low 37 0))))))

abbrev pub again_by : State → ℕ → Bool
again_by st next = both (not (eqb next 0)) (st.met next)

abbrev pub bare_by : State → ℕ → Bool
bare_by st entries = both (eqb entries 0) (not (eqb st.at 0))

abbrev pub low_by : State → ℕ → Bool
low_by st low = both (not (eqb st.entries 0)) (not (eqb low 0))

-- the fault by what the code has at hand
abbrev pub fault_by : (N next head : ℕ) → Bool → Tally → ℕ → State → ℕ
fault_by N next head twin t low st =
    first_fault (leb N next) (again_by st next) (is_locked head) (bare_by st t.entries) (not (eqb t.wrong 0)) twin
    (low_by st low)

-- 1 where some key is at most x, by the smallest
abbrev pub reached_by : Tally → ℕ → ℕ
reached_by t x = cond (both (not (eqb t.entries 0)) (leb t.least x)) 1 0

-- the smallest key by a tally, 0 where there is none
abbrev pub smallest_by : Tally → ℕ
smallest_by t = cond (eqb t.entries 0) 0 t.least

unfoldable pub fault_of : Leaf → ℕ → State → ℕ
fault_of L N st =
    first_fault (leb N L.next) (again_by st L.next) L.lock (bare_by st (count L))
    (not (eqb (count_below (wrong_at L) L.size) 0)) (twins L)
    (low_by st (count_below (at_most L st.last) L.size))

-- the leaf at hand judged
unfoldable pub judged : Leaf → ℕ → ℕ → State → State
judged L N key st =
    cond (eqb (fault_of L N st) 0)
    (moved L.next (count L) (count_below (at_most L key) L.size) (most_to L L.size) st)
    (stopped (fault_of L N st) st)

-- at most n turns
unfoldable pub walk : (ℕ → Leaf) → ℕ → ℕ → ℕ → State → State
walk I N key zero st = st
walk I N key (suc n) st = cond (eqb st.stage 0) (walk I N key n (judged (I st.at) N key st)) st

-- block 0 is met at the start
abbrev pub start : State
start = record {
  stage = 0;
  at = 0;
  prev = 0;
  target = 0;
  before = 0;
  leaves = 0;
  entries = 0;
  last = 0;
  met = upd (λ b. false) 0 true;
}

unfoldable pub surveyed : (ℕ → Leaf) → ℕ → ℕ → State
surveyed I N key = walk I N key N start

-- ---- what is noted on the way

-- the leaves judged in at most n turns
unfoldable pub visited : (ℕ → Leaf) → ℕ → ℕ → ℕ → State → List ℕ
visited I N key zero st = []
visited I N key (suc n) st = cond (eqb st.stage 0) (st.at ∷ visited I N key n (judged (I st.at) N key st)) []

-- of the first n of some leaves the smallest keys and the numbers, as far as the buffers reach
pub record NotedTo (I : ℕ → Leaf) (bs : List ℕ) (n : ℕ) (leasts numbers : List ℕ) : Type 0 where
  pub least : (j : ℕ) → j < n → j < length leasts → get_or leasts j 0 ≡ smallest_of (I (get_or bs j 0))
  pub number : (j : ℕ) → j < n → j < length numbers → get_or numbers j 0 ≡ get_or bs j 0

-- of all leaves of the walk
abbrev pub Noted : (ℕ → Leaf) → ℕ → ℕ → List ℕ → List ℕ → Type 0
Noted I N key leasts numbers = let bs = visited I N key N start in NotedTo I bs (length bs) leasts numbers
