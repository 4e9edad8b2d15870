-- `any` goes along the range from its start, and `any_below` from its end.
use Rattle.std.proofs.Common.{◌≡◌, refl, ℕ, zero, suc, ◌+◌, Bool, true, false, ◌||◌, arith, rules, tests, add-zero, add-one, zero-add, ◌∙◌, ap}
use Rattle.std.specs.List.{list_any, range_with_len}
use Rattle.std.proofs.lemmas.Iterator.{YieldsList-from_range}
use Rattle.std.proofs.lemmas.Iterator.Search.{any_from_yields_List}
use Rattle.words.specs.Bools.{or_none}
use Rattle.words.specs.Below.{any_below}
use Rattle.machine.specs.Taking.{malformed}
use Rattle.machine.proofs.refusals.any_malformed.Goals as goal

or_assoc : (a b c : Bool) → a || (b || c) ≡ (a || b) || c
or_assoc true b c = refl
or_assoc false b c = refl

-- the numbers below k, and the n from k on
any_along : (f : ℕ → Bool) (n k : ℕ) → any_below f k || list_any f (range_with_len k n) ≡ any_below f (k + n)
unfolding any_below
any_along f zero k = rw (add-zero k) (or_none (any_below f k))
any_along f (suc n) k =
    let u : any_below f (k + 1) ≡ any_below f k || f k = rw (add-one k) in
    let q : k + 1 + n ≡ k + suc n = omega arith in
    or_assoc (any_below f k) (f k) (list_any f (range_with_len (k + 1) n)) ∙ rw (u, q) at (any_along f n (k + 1))

pub returns : goal.returns
unfolding any_below
returns c =
    let f = malformed c.args.size c.args.list.now in
    any_from_yields_List f _ _ _ c.any.ensures.ran
    (YieldsList-from_range 0 c.args.n c.args.n refl (omega arith)) (λ x b q k. search (rules, tests))
    ∙ any_along f c.args.n 0
    ∙ ap (any_below f) (zero-add c.args.n)
