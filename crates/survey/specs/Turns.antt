-- A leaf judged, and one turn of the walk, as the code computes them.
use Rattle.std.specs.Prelude.{◌≡◌, Bool, true, false, not, List, [], ◌∷◌, leb, length, get_or, set, drop}
use Rattle.std.proofs.Math.Path.{refl, sym, ap}
use Rattle.std.proofs.Common.{subst, ◌∙◌, add-zero, length-set, length-drop, get_or-set_same, get_or-set_other, get_or-drop, drop-drop}
use Rattle.std.proofs.Math.Bool.{cond}
use Prim.Native.Nat.{ℕ, zero, suc, ◌+◌, ◌-◌, ◌*◌, ◌≤◌, ◌<◌}
use Rattle.std.proofs.Math.Decide.{ℕ_discrete}
use native.Mathlib.Omega.{arith}
use borrow.Author.Tests.{eq-eqb, ne_eqb, eqb-true, eqb-false, leb-false}
use Rattle.std.proofs.Math.Dec.{eqb}
use Rattle.words.specs.Update.{upd}
use Rattle.words.specs.Bools.{bit, both, by_test}
use Rattle.words.specs.Below.{count_below}
use Rattle.words.specs.BelowLaws.{count_most}
use Rattle.header.specs.Header.{is_locked}
use Rattle.leaf.specs.Leaf.{Leaf, leaf_in, view}
use Rattle.leaf.specs.Search.{smallest_of, count}
use Rattle.leaf.proofs.TallyLaws.{least_reaches, smallest_is}
use Rattle.leaf.specs.Tally.{Tells, wrong_at, at_most, most_to, twins}
use Rattle.leaf.specs.declared.tally.Tally.{Tally}
use Rattle.survey.specs.declared.walk.Fault.{Fault}
use Rattle.survey.specs.declared.walk.Fault.TheVariants.{Far, Again, Locked, Bare, WrongPrint, Twin, Low}
use Rattle.survey.specs.declared.walk.Stage.{Stage}
use Rattle.survey.specs.declared.walk.Stage.TheVariants.{GoesOn, Ended, Broken}
use Rattle.survey.specs.Walk.{State, fault_number, stage_number, stopped, moved, first_fault, again_by, bare_by, low_by, fault_by, reached_by, smallest_by, fault_of, judged, start, walk, surveyed, visited, NotedTo, Noted}

-- ---- the fault

pub fault_some : (f : Fault) → fault_number f ≡ zero → ⊥
fault_some Far e = omega arith
fault_some Again e = omega arith
fault_some Locked e = omega arith
fault_some Bare e = omega arith
fault_some WrongPrint e = omega arith
fault_some Twin e = omega arith
fault_some Low e = omega arith

pub fault_near : (N next head : ℕ) (twin : Bool) (t : Tally) (low : ℕ) (st : State) → fault_by N next head twin t low st ≡ 0
    → next < N
fault_near N next head twin t low st e = by_test
    (λ b. first_fault b (again_by st next) (is_locked head) (bare_by st t.entries)
    (not (eqb t.wrong 0)) twin (low_by st low) ≡ 0 → next < N)
    (leb N next)
    (λ q z. absurd (omega arith))
    (λ q z. leb-false N next q)
    e

pub fault_far : (L : Leaf) (N : ℕ) (st : State) → fault_of L N st ≡ 0 → L.next < N
unfolding fault_of
fault_far L N st e = by_test
    (λ b. cond b 31 rest ≡ 0 → L.next < N)
    (leb N L.next)
    (λ q z. absurd (omega arith))
    (λ q z. leb-false N L.next q)
    e
  where
    rest : ℕ
    rest = first_fault false (again_by st L.next) L.lock (bare_by st (count L))
        (not (eqb (count_below (wrong_at L) L.size) 0)) (twins L)
        (low_by st (count_below (at_most L st.last) L.size))

-- some key is at most x
module _ (L : Leaf) (t : Tally) (tells : Tells L t) (small : (s : ℕ) → L.key s ≤ 18446744073709551615) (x : ℕ) where
  reached_is : eqb (reached_by t x) 0 ≡ eqb (count_below (at_most L x) L.size) 0
  unfolding count
  reached_is =
      ap (λ (b : Bool). eqb (bit b) 0)
      ((λ i. both (not (eqb (tells.entries i) 0)) (leb (tells.least i) x)) ∙ least_reaches L L.size x small)
      ∙ by_test (λ z. eqb (bit (not z)) 0 ≡ z) (eqb (count_below (at_most L x) L.size) 0) (λ e. refl) (λ e. refl)

pub smallest_told : (L : Leaf) (t : Tally) → Tells L t → ((s : ℕ) → L.key s ≤ 18446744073709551615) → smallest_by t ≡ smallest_of L
smallest_told L t tells small = (λ i. cond (eqb (tells.entries i) 0) 0 (tells.least i)) ∙ smallest_is L small

-- what the code has at hand is what is asked of the leaf
pub fault_is : (L : Leaf) (N next head : ℕ) (t : Tally) (st : State) → Tells L t
    → ((s : ℕ) → L.key s ≤ 18446744073709551615) → next ≡ L.next → is_locked head ≡ L.lock
    → fault_by N next head (twins L) t (reached_by t st.last) st ≡ fault_of L N st
unfolding fault_of
fault_is L N next head t st tells small en el = λ i.
    first_fault (leb N (en i)) (again_by st (en i)) (el i) (bare_by st (tells.entries i)) (not (eqb (tells.wrong i) 0)) (twins L)
    (both (not (eqb st.entries 0)) (not (reached_is L t tells small st.last i)))

pub stage_stops : (s : Stage) → (s ≡ GoesOn → ⊥) → stage_number s ≡ zero → ⊥
stage_stops GoesOn ne e = ne refl
stage_stops Ended ne e = omega arith
stage_stops (Broken f) ne e = fault_some f e

-- ---- the leaf judged

module _ (L : Leaf) (N key : ℕ) (st : State) (fault : ℕ) (is : fault ≡ fault_of L N st) where
  pub judged_on : (next : ℕ) (t : Tally) → Tells L t → ((s : ℕ) → L.key s ≤ 18446744073709551615) → next ≡ L.next → fault ≡ 0
      → moved next t.entries (reached_by t key) t.most st ≡ judged L N key st
  unfolding judged
  judged_on next t tells small en e =
      rw (eq-eqb (fault_of L N st) 0 (sym is ∙ e))
      (moved_by (reached_by t key) (count_below (at_most L key) L.size) (reached_is L t tells small key) ∙
      (λ i. moved (en i) (tells.entries i) (count_below (at_most L key) L.size) (tells.most i) st))
    where
      moved_by : (a b : ℕ) → eqb a 0 ≡ eqb b 0 → moved next t.entries a t.most st ≡ moved next t.entries b t.most st
      moved_by a b q = λ i. record {
        stage = cond (eqb next 0) 1 0;
        at = next;
        prev = st.at;
        target = cond (q i) st.target st.at;
        before = cond (q i) st.before st.prev;
        leaves = st.leaves + 1;
        entries = st.entries + t.entries;
        last = cond (eqb t.entries 0) st.last t.most;
        met = upd st.met next true;
      }

  pub judged_stop : (fault ≡ 0 → ⊥) → stopped fault st ≡ judged L N key st
  unfolding judged
  judged_stop ne = rw (ne_eqb (fault_of L N st) 0 (λ e. ne (is ∙ e))) (ap (λ (f : ℕ). stopped f st) is)

-- ---- the bounds that a walk keeps

pub few_entries : (l : List ℕ) (t : Tally) → Tells (leaf_in l) t → t.entries ≤ 14
unfolding leaf_in count
few_entries l t tells = omega (arith, tells.entries, count_most (leaf_in l).occ 14)

pub view_few : (w : ℕ → ℕ) (b : ℕ) → count (view w b) ≤ 14
unfolding view count
view_few w b = count_most (view w b).occ 14

-- in i turns over N blocks
pub record Bounded (N i : ℕ) (st : State) : Type 0 where
  pub at : st.at < N
  pub prev : st.prev < N
  pub target : st.target < N
  pub before : st.before < N
  pub leaves : st.leaves ≤ i
  pub entries : st.entries ≤ 14 * i

start_bounded : (N : ℕ) → 0 < N → Bounded N 0 start
start_bounded N h = record { at = h; prev = h; target = h; before = h; leaves = omega arith; entries = omega arith }

pick_below : (b : Bool) (x y N : ℕ) → x < N → y < N → cond b x y < N
pick_below true x y N a b = a
pick_below false x y N a b = b

judged_bounded : (w : ℕ → ℕ) (b N key i : ℕ) (st : State) → Bounded N i st → Bounded N (i + 1) (judged (view w b) N key st)
unfolding judged
judged_bounded w b N key i st B =
    by_test (λ x. Bounded N (i + 1)
    (cond x (moved L.next (count L) reached most st) (stopped (fault_of L N st) st)))
    (eqb (fault_of L N st) 0)
    (λ e. record {
      at = near (eqb-true (fault_of L N st) 0 e);
      prev = B.at;
      target = pick_below (eqb reached 0) st.target st.at N B.target B.at;
      before = pick_below (eqb reached 0) st.before st.prev N B.before B.prev;
      leaves = omega (arith, B.leaves);
      entries = omega (arith, B.entries, few);
    })
    (λ e. record {
      at = B.at;
      prev = B.prev;
      target = B.target;
      before = B.before;
      leaves = omega (arith, B.leaves);
      entries = omega (arith, B.entries);
    })
  where
    L : Leaf
    L = view w b

    reached : ℕ
    reached = count_below (at_most L key) L.size

    most : ℕ
    most = most_to L L.size

    few : count L ≤ 14
    few = view_few w b

    near : fault_of L N st ≡ 0 → L.next < N
    near e = fault_far L N st e

turn_bounded : (w : ℕ → ℕ) (N key i : ℕ) (st r : State) → Bounded N i st → r ≡ judged (view w st.at) N key st
    → Bounded N (i + 1) r
turn_bounded w N key i st r B e = rw e (judged_bounded w st.at N key i st B)

bounded_more : (N i j : ℕ) (st : State) → i ≤ j → Bounded N i st → Bounded N j st
bounded_more N i j st h B = record {
  at = B.at;
  prev = B.prev;
  target = B.target;
  before = B.before;
  leaves = omega (arith, B.leaves);
  entries = omega (arith, B.entries);
}

walk_bounded : (w : ℕ → ℕ) (N key n i : ℕ) (st : State) → Bounded N i st → Bounded N (i + n) (walk (view w) N key n st)
unfolding walk
walk_bounded w N key zero i st B = bounded_more N i (i + 0) st (omega arith) B
walk_bounded w N key (suc n) i st B =
    by_test (λ b. Bounded N (i + suc n) (cond b (walk (view w) N key n (judged (view w st.at) N key st)) st))
    (eqb st.stage 0)
    (λ e.
    let q : i + 1 + n ≤ i + suc n = omega arith in
    bounded_more N (i + 1 + n) (i + suc n) _ q
    (walk_bounded w N key n (i + 1) (judged (view w st.at) N key st) (judged_bounded w st.at N key i st B)))
    (λ e. bounded_more N i (i + suc n) st (omega arith) B)

pub surveyed_bounded : (w : ℕ → ℕ) (N key : ℕ) → 0 < N → Bounded N N (surveyed (view w) N key)
unfolding surveyed
surveyed_bounded w N key h =
    bounded_more N (0 + N) N (walk (view w) N key N start) (omega arith) (walk_bounded w N key N 0 start (start_bounded N h))

-- ---- the turns

module _ (I : ℕ → Leaf) (N key : ℕ) where
  walk_whole : (st : State) → st ≡ start → walk I N key (N - 0) st ≡ surveyed I N key
  unfolding surveyed
  walk_whole st e = let n : N - 0 ≡ N = omega arith in rw (n, e)

  walk_turn : (i : ℕ) (st r whole : State) → i < N → st.stage ≡ 0 → r ≡ judged (I st.at) N key st
      → walk I N key (N - i) st ≡ whole → walk I N key (N - (i + 1)) r ≡ whole
  unfolding walk
  walk_turn i st r whole h e j is = sym (let n : N - i ≡ suc (N - (i + 1)) = omega arith in rw (n, eq-eqb st.stage 0 e, j))
      ∙ is

  pub walk_stop : (n : ℕ) (st : State) → (st.stage ≡ 0 → ⊥) → walk I N key n st ≡ st
  unfolding walk
  walk_stop zero st ne = refl
  walk_stop (suc n) st ne = rw (ne_eqb st.stage 0 ne)

  walk_end : (i : ℕ) (st : State) → N ≤ i → walk I N key (N - i) st ≡ st
  unfolding walk
  walk_end i st h = let n : N - i ≡ 0 = omega arith in rw n

  -- ---- the leaves visited

  pub visited_stop : (n : ℕ) (st : State) → (st.stage ≡ 0 → ⊥) → visited I N key n st ≡ []
  unfolding visited
  visited_stop zero st ne = refl
  visited_stop (suc n) st ne = rw (ne_eqb st.stage 0 ne)

  abbrev way : List ℕ
  way = visited I N key N start

  -- those to come after i turns
  abbrev Coming : ℕ → State → Type 0
  Coming i st = drop i way ≡ visited I N key (N - i) st

  coming_all : (st : State) → st ≡ start → Coming 0 st
  coming_all st e = let n : N - 0 ≡ N = omega arith in rw (n, e)

  module _ (i : ℕ) (st : State) (c : Coming i st) where
    coming_one : i < N → st.stage ≡ 0 → drop i way ≡ st.at ∷ visited I N key (N - (i + 1)) (judged (I st.at) N key st)
    unfolding visited
    coming_one h e = c ∙ (let n : N - i ≡ suc (N - (i + 1)) = omega arith in rw (n, eq-eqb st.stage 0 e))

    coming_here : i < N → st.stage ≡ 0 → get_or way i 0 ≡ st.at
    coming_here h e = sym (get_or-drop i way 0 0 ∙ rw (add-zero i)) ∙ ap (λ (l : List ℕ). get_or l 0 0) (coming_one h e)

    coming_next : (r : State) → i < N → st.stage ≡ 0 → r ≡ judged (I st.at) N key st → Coming (i + 1) r
    coming_next r h e j =
        rw (j, ← drop-drop 1 i way) (ap (drop 1) (coming_one h e))

    coming_none : visited I N key (N - i) st ≡ [] → length way ≤ i
    coming_none e = omega (arith, length-drop i way, ap (λ (l : List ℕ). length l) (c ∙ e))

    -- the walk has stopped, or made all its turns
    coming_stop : (st.stage ≡ 0 → ⊥) → length way ≤ i
    coming_stop ne = coming_none (visited_stop (N - i) st ne)

    coming_end : N ≤ i → length way ≤ i
    unfolding visited
    coming_end h = coming_none (let n : N - i ≡ 0 = omega arith in rw n)

-- ---- what is noted of them

module _ (I : ℕ → Leaf) (bs : List ℕ) where
  noted_none : (leasts numbers : List ℕ) → NotedTo I bs 0 leasts numbers
  noted_none leasts numbers = record { least = λ j b c. absurd (omega arith); number = λ j b c. absurd (omega arith) }

  -- one more
  noted_next : (i b : ℕ) (leasts numbers ls ns : List ℕ) → get_or bs i 0 ≡ b → NotedTo I bs i leasts numbers
      → ls ≡ set leasts i (smallest_of (I b)) → ns ≡ set numbers i b → NotedTo I bs (i + 1) ls ns
  noted_next i b leasts numbers ls ns e k el en = rw (el, en) (record {
    least = λ j c d. elim (ℕ_discrete j i) [
      | yes q ↦ rw (q, e) (get_or-set_same leasts i (smallest_of (I b)) 0 (omega (arith, length-set leasts i (smallest_of (I b)))))
      | no q ↦ get_or-set_other leasts i j (smallest_of (I b)) 0 q
          ∙ k.least j (omega arith) (omega (arith, length-set leasts i (smallest_of (I b))))
    ];
    number = λ j c d. elim (ℕ_discrete j i) [
      | yes q ↦ rw (q, e) (get_or-set_same numbers i b 0 (omega (arith, length-set numbers i b)))
      | no q ↦ get_or-set_other numbers i j b 0 q ∙ k.number j (omega arith) (omega (arith, length-set numbers i b))
    ];
  })

  noted_all : (i : ℕ) (leasts numbers : List ℕ) → length bs ≤ i → NotedTo I bs i leasts numbers
      → NotedTo I bs (length bs) leasts numbers
  noted_all i leasts numbers h k = record {
    least = λ j b c. k.least j (omega arith) c;
    number = λ j b c. k.number j (omega arith) c;
  }

-- ---- all that a walk keeps

-- a turn that does not stop the walk passes a leaf
pub judged_goes : (L : Leaf) (N key : ℕ) (st r : State) → r ≡ judged L N key st → r.stage ≡ 0 → r.leaves ≡ st.leaves + 1
unfolding judged
judged_goes L N key st r j e = ap (λ (s : State). s.leaves) j ∙ by_test
    (λ b. (cond b on off).stage ≡ 0 → (cond b on off).leaves ≡ st.leaves + 1)
    (eqb (fault_of L N st) 0)
    (λ q z. refl)
    (λ q z. absurd (eqb-false (fault_of L N st) 0 q z))
    (ap (λ (s : State). s.stage) (sym j) ∙ e)
  where
    on : State
    on = moved L.next (count L) (count_below (at_most L key) L.size) (most_to L L.size) st

    off : State
    off = stopped (fault_of L N st) st

module _ (w : ℕ → ℕ) (N key : ℕ) where
  -- after i turns: it is in bounds, what is left of it gives what the whole walk gives, and what is behind is noted
  pub record Kept (i : ℕ) (st : State) (leasts numbers : List ℕ) : Type 0 where
    pub bounded : Bounded N i st
    pub rest : walk (view w) N key (N - i) st ≡ surveyed (view w) N key
    pub coming : Coming (view w) N key i st
    pub noted : NotedTo (view w) (way (view w) N key) i leasts numbers

  pub kept_start : (st : State) (leasts numbers : List ℕ) → 0 < N → st ≡ start → Kept 0 st leasts numbers
  kept_start st leasts numbers h e = subst (λ (s : State). Kept 0 s leasts numbers) (sym e) (record {
    bounded = start_bounded N h;
    rest = walk_whole (view w) N key start refl;
    coming = coming_all (view w) N key start refl;
    noted = noted_none (view w) (way (view w) N key) leasts numbers;
  })

  pub kept_turn : (i : ℕ) (st r : State) (leasts numbers ls ns : List ℕ) → Kept i st leasts numbers → i < N → st.stage ≡ 0
      → r ≡ judged (view w st.at) N key st → ls ≡ set leasts i (smallest_of (view w st.at)) → ns ≡ set numbers i st.at
      → Kept (i + 1) r ls ns
  kept_turn i st r leasts numbers ls ns k h e j el en = record {
    bounded = turn_bounded w N key i st r k.bounded j;
    rest = walk_turn (view w) N key i st r (surveyed (view w) N key) h e j k.rest;
    coming = coming_next (view w) N key i st k.coming r h e j;
    noted = noted_next (view w) (way (view w) N key) i st.at leasts numbers ls ns
        (coming_here (view w) N key i st k.coming h e) k.noted el en;
  }

  -- the turns made are the leaves passed
  pub kept_passed : (i : ℕ) (st r : State) (leasts numbers ls ns : List ℕ) → Kept i st leasts numbers → st.leaves ≡ i → i < N
      → st.stage ≡ 0 → r ≡ judged (view w st.at) N key st → ls ≡ set leasts st.leaves (smallest_of (view w st.at))
      → ns ≡ set numbers st.leaves st.at → Kept (i + 1) r ls ns
  kept_passed i st r leasts numbers ls ns k p h e j el en =
      kept_turn i st r leasts numbers ls ns k h e j
      (el ∙ ap (λ (n : ℕ). set leasts n (smallest_of (view w st.at))) p)
      (en ∙ ap (λ (n : ℕ). set numbers n st.at) p)

  module _ (i : ℕ) (st : State) (leasts numbers : List ℕ) (k : Kept i st leasts numbers) where
    -- the walk has stopped, or made all its turns
    pub kept_stop : (st.stage ≡ 0 → ⊥) → (st ≡ surveyed (view w) N key) × Noted (view w) N key leasts numbers
    kept_stop ne = (
      sym (walk_stop (view w) N key (N - i) st ne) ∙ k.rest,
      noted_all (view w) (way (view w) N key) i leasts numbers (coming_stop (view w) N key i st k.coming ne) k.noted,
    )

    pub kept_end : N ≤ i → (st ≡ surveyed (view w) N key) × Noted (view w) N key leasts numbers
    kept_end h = (
      sym (walk_end (view w) N key i st h) ∙ k.rest,
      noted_all (view w) (way (view w) N key) i leasts numbers (coming_end (view w) N key i st k.coming h) k.noted,
    )

-- a buffer that ends before i stays as it is
pub set_past : (l : List ℕ) (i v : ℕ) → length l ≤ i → set l i v ≡ l
set_past [] i v h = refl
set_past (x ∷ l) zero v h = absurd (omega arith)
set_past (x ∷ l) (suc i) v h = ap (λ (r : List ℕ). x ∷ r) (set_past l i v (omega arith))
