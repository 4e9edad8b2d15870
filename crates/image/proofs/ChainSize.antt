-- An image has one chain, its blocks are below N, it has at most N of them, and where it has fewer there is a lowest
-- free block.
use Rattle.std.specs.Prelude.{◌≡◌, refl, List, [], ◌∷◌, ◌⊎◌, ◌≢◌, ℕ, zero, suc, ◌≤◌, ◌<◌, length}
use Rattle.std.proofs.Common.{sym, ap₂, ◌∙◌, subst, inl, inr, arith}
use Rattle.std.proofs.Math.Decide.{ℕ_discrete, dec_lt}
use Rattle.leaf.specs.Leaf.{Leaf}
use Rattle.image.specs.Chain.{All, Links, Distinct, Sound, LowestFree}
use Rattle.image.proofs.ChainLaws.{all_zip, all_map}

-- ---- one chain

-- the leaves behind block 0
abbrev pub Later : List ℕ → Type 0
Later [] = Unit {0}
Later (b ∷ bs) = All (λ x. x ≢ 0) bs

pub sound_later : (I : ℕ → Leaf) (N : ℕ) (bs : List ℕ) → Sound I N bs → Later bs
sound_later I N [] S = tt
sound_later I N (b ∷ bs) S = all_map (λ x. x ≢ b) (λ x. x ≢ 0) (λ x h e. h (e ∙ sym S.starts)) bs S.distinct.0

links_unique : (I : ℕ → Leaf) (a : ℕ) (bs cs : List ℕ) → All (λ b. b ≢ 0) bs → All (λ c. c ≢ 0) cs
    → Links I a bs 0 → Links I a cs 0 → bs ≡ cs
links_unique I a [] [] p q l m = refl
links_unique I a [] (c ∷ cs) p q l m = absurd (q.0 (sym m.0 ∙ l))
links_unique I a (b ∷ bs) [] p q l m = absurd (p.0 (sym l.0 ∙ m))
links_unique I a (b ∷ bs) (c ∷ cs) p q l m =
    let e : c ≡ b = sym m.0 ∙ l.0 in
    ap₂ (λ (x : ℕ) (ys : List ℕ). x ∷ ys) (sym e)
    (links_unique I (I b).next bs cs p.1 q.1 l.1 (subst (λ (x : ℕ). Links I (I x).next cs 0) e m.1))

pub chain_unique : (I : ℕ → Leaf) (N : ℕ) (bs cs : List ℕ) → Sound I N bs → Sound I N cs → bs ≡ cs
chain_unique I N [] cs S T = absurd S.starts
chain_unique I N (b ∷ bs) [] S T = absurd T.starts
chain_unique I N (b ∷ bs) (c ∷ cs) S T =
    let e : c ≡ b = T.starts ∙ sym S.starts in
    ap₂ (λ (x : ℕ) (ys : List ℕ). x ∷ ys) (sym e)
    (links_unique I (I b).next bs cs (sound_later I N (b ∷ bs) S) (sound_later I N (c ∷ cs) T) S.links.1
    (subst (λ (x : ℕ). Links I (I x).next cs 0) e T.links.1))

-- ---- its blocks are below N

links_near : (I : ℕ → Leaf) (N a : ℕ) (bs : List ℕ) (z : ℕ) → a < N → All (λ b. (I b).next < N) bs → Links I a bs z
    → All (λ b. b < N) bs
links_near I N a [] z h g l = tt
links_near I N a (b ∷ bs) z h g l = (rw (sym l.0) h, links_near I N (I b).next bs z g.0 g.1 l.1)

pub chain_near : (I : ℕ → Leaf) (N : ℕ) (bs : List ℕ) → Sound I N bs → 0 < N → All (λ b. b < N) bs
chain_near I N bs S h = links_near I N 0 bs 0 h S.near S.links

-- ---- it has at most N of them

-- the list without the number n
record Removed (n : ℕ) (bs : List ℕ) : Type 1 where
  rest : List ℕ
  distinct : Distinct rest
  below : All (λ b. b < n) rest
  shorter : length bs ≤ suc (length rest)
  from : (P : ℕ → Type 0) → All P bs → All P rest

removed : (n : ℕ) (bs : List ℕ) → Distinct bs → All (λ b. b < suc n) bs → Removed n bs
removed n [] d a = record { rest = []; distinct = tt; below = tt; shorter = omega arith; from = λ P p. tt }
removed n (b ∷ bs) d a = go (ℕ_discrete b n) (removed n bs d.1 a.1)
  where
    go : Dec (b ≡ n) → Removed n bs → Removed n (b ∷ bs)
    go (yes e) r = record {
      rest = bs;
      distinct = d.1;
      shorter = omega arith;
      from = λ P p. p.1;
      below = all_zip (λ c. c ≢ b) (λ c. c < suc n) (λ c. c < n) (λ c h l. omega arith) bs d.0 a.1;
    }
    go (no ne) r = record {
      rest = b ∷ r.rest;
      distinct = (r.from (λ c. c ≢ b) d.0, r.distinct);
      shorter = omega (arith, r.shorter);
      from = λ P p. (p.0, r.from P p.1);
      below = (omega (arith, a.0), r.below);
    }

-- different numbers below n are at most n
pub pigeons : (n : ℕ) (bs : List ℕ) → Distinct bs → All (λ b. b < n) bs → length bs ≤ n
pigeons zero [] d a = omega arith
pigeons zero (b ∷ bs) d a = absurd (omega (arith, a.0))
pigeons (suc n) bs d a =
    let r : Removed n bs = removed n bs d a in
    omega (arith, pigeons n r.rest r.distinct r.below, r.shorter)

pub chain_short : (I : ℕ → Leaf) (N : ℕ) (bs : List ℕ) → Sound I N bs → 0 < N → length bs ≤ N
chain_short I N bs S h = pigeons N bs S.distinct (chain_near I N bs S h)

-- ---- the lowest free block

-- a number is in a list or it is not
member : (c : ℕ) (bs : List ℕ) → All (λ b. b ≢ c) bs ⊎ (All (λ b. b ≢ c) bs → ⊥)
member c [] = inl tt
member c (b ∷ bs) =
    elim (ℕ_discrete b c) [
      | yes e ↦ inr (λ f. f.0 e)
      | no ne ↦ elim (member c bs) [ inl f ↦ inl (ne, f) | inr f ↦ inr (λ g. f g.1) ]
    ]

-- the first n numbers are all in the list, or there is a lowest one that is not
lowest_to : (bs : List ℕ) (n : ℕ)
    → ((c : ℕ) × LowestFree n bs c) ⊎ ((d : ℕ) → d < n → All (λ b. b ≢ d) bs → ⊥)
lowest_to bs zero = inr (λ d l. absurd (omega arith))
lowest_to bs (suc n) =
    elim (lowest_to bs n) [
      | inl r ↦ inl (r.0, record { inside = omega (arith, r.1.inside); free = r.1.free; lowest = r.1.lowest })
      | inr f ↦ elim (member n bs) [
        | inl g ↦ inl (n, record { inside = omega arith; free = g; lowest = λ d l. f d (omega arith) })
        | inr g ↦ inr (λ d l. elim (ℕ_discrete d n) [ yes e ↦ rw e g | no ne ↦ f d (omega arith) ])
      ]
    ]

-- the list with one n less
record Less (n : ℕ) (bs : List ℕ) : Type 0 where
  rest : List ℕ
  shorter : suc (length rest) ≤ length bs
  back : (c : ℕ) → c ≢ n → All (λ b. b ≢ c) rest → All (λ b. b ≢ c) bs

less : (n : ℕ) (bs : List ℕ) → (All (λ b. b ≢ n) bs → ⊥) → Less n bs
less n [] f = absurd (f tt)
less n (b ∷ bs) f = go (ℕ_discrete b n) (less n bs)
  where
    go : Dec (b ≡ n) → ((All (λ b. b ≢ n) bs → ⊥) → Less n bs) → Less n (b ∷ bs)
    go (yes e) ih = record { rest = bs; shorter = omega arith; back = λ c ne g. (λ q. ne (sym q ∙ e), g) }
    go (no ne) ih =
        let r : Less n bs = ih (λ g. f (ne, g)) in
        record { rest = b ∷ r.rest; shorter = omega (arith, r.shorter); back = λ c m g. (g.0, r.back c m g.1) }

-- a list that has the first n numbers is no shorter than n
covered : (n : ℕ) (bs : List ℕ) → ((c : ℕ) → c < n → All (λ b. b ≢ c) bs → ⊥) → n ≤ length bs
covered zero bs f = omega arith
covered (suc n) bs f =
    let r : Less n bs = less n bs (f n (omega arith)) in
    omega (arith, r.shorter, covered n r.rest (λ c l g. f c (omega arith) (r.back c (omega arith) g)))

pub lowest_free : (N : ℕ) (bs : List ℕ) → length bs < N → (c : ℕ) × LowestFree N bs c
lowest_free N bs h = elim (lowest_to bs N) [ inl r ↦ r | inr f ↦ absurd (omega (arith, covered N bs f)) ]

pub lowest_unique : (N : ℕ) (bs : List ℕ) (c d : ℕ) → LowestFree N bs c → LowestFree N bs d → c ≡ d
lowest_unique N bs c d p q =
    let a : c < d → ⊥ = λ l. q.lowest c l p.free in
    let b : d < c → ⊥ = λ l. p.lowest d l q.free in
    elim (ℕ_discrete c d) [ yes e ↦ e | no ne ↦ absurd (elim (dec_lt c d) [ yes l ↦ a l | no l ↦ b (omega arith) ]) ]
