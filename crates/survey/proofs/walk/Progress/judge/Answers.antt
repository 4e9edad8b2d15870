use Rattle.std.proofs.Common.{◌≤◌, ◌<◌, ◌∙◌, ℕ, List, sym, ap, refl, arith}
use Rattle.std.specs.Prelude.{set}
use Rattle.words.specs.WordLaws.{Bytes}
use Rattle.header.specs.Header.{head_at}
use Rattle.leaf.specs.Leaf.{leaf_in}
use Rattle.leaf.specs.Tally.{twins}
use Rattle.leaf.proofs.SearchSteps.{in_lock, key_small}
use Rattle.survey.specs.Walk.{fault_number, state_in, moved, reached_by}
use Rattle.survey.specs.Turns.{fault_some, fault_near, fault_is, judged_on, judged_stop, few_entries, smallest_told}
use Rattle.survey.proofs.walk.Progress.judge.Goals as goal

small : (l : List ℕ) → Bytes l → (s : ℕ) → (leaf_in l).key s ≤ 18446744073709551615
small l h s = omega (arith, key_small l s h)

pub onward-requires : goal.onward-requires
onward-requires c =
    let a = c.args in
    let t = c.tally_of-t.result in
    let near : c.next_of-next.result < a.n = fault_near a.n c.next_of-next.result (head_at a.leaf.now 0) (twins (leaf_in a.leaf.now)) t
    (reached_by t a.self.now.last) (state_in a.self.now a.met.now) (sym c.in-None.ensures) in
    (omega arith, omega arith, omega arith, few_entries a.leaf.now t c.tally_of-t.ensures.0)

pub returns-in-Some : goal.returns-in-Some
returns-in-Some c =
    let a = c.args in
    let L = leaf_in a.leaf.now in
    let st = state_in a.self.now a.met.now in
    let t = c.tally_of-t.result in
    let few = small a.leaf.now c.requires.0 in (
      judged_stop L a.n a.key st (fault_number c.in-Some.fault)
          (c.in-Some.ensures ∙ fault_is L a.n c.next_of-next.result (head_at a.leaf.now 0) t st c.tally_of-t.ensures.0 few
          c.next_of-next.ensures (in_lock a.leaf.now _ refl)) (fault_some c.in-Some.fault),
      c.note_leaf.ensures.0 ∙ ap (set a.leasts.now a.self.now.leaves) (smallest_told L t c.tally_of-t.ensures.0 few),
      c.note_leaf.ensures.1,
    )

pub returns-in-None : goal.returns-in-None
returns-in-None c =
    let a = c.args in
    let L = leaf_in a.leaf.now in
    let st = state_in a.self.now a.met.now in
    let t = c.tally_of-t.result in
    let next = c.next_of-next.result in
    let few = small a.leaf.now c.requires.0 in (
      c.onward.ensures ∙ ap (λ (x : ℕ). moved next t.entries x t.most st) c.reaches.ensures
          ∙ judged_on L a.n a.key st 0
          (c.in-None.ensures ∙ fault_is L a.n next (head_at a.leaf.now 0) t st c.tally_of-t.ensures.0 few
          c.next_of-next.ensures (in_lock a.leaf.now _ refl))
          next t c.tally_of-t.ensures.0 few c.next_of-next.ensures refl,
      c.note_leaf.ensures.0 ∙ ap (set a.leasts.now a.self.now.leaves) (smallest_told L t c.tally_of-t.ensures.0 few),
      c.note_leaf.ensures.1,
    )
