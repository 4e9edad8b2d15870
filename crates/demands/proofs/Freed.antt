-- "Del: if the entry is the only one of a leaf other than block 0, (..) (001's steps for deletion are only the second; the first
-- frees the block.)" The freed block is out of the chain, so that a later split takes it or a lower one: document 01's slip
-- "A leaf freed by del and never taken again" is none of ours.
use Rattle.std.specs.Prelude.{◌≡◌, ◌≢◌, ℕ, ◌*◌, ◌/◌, length}
use Rattle.std.proofs.Common.{sym, ◌∙◌, subst, inl, inr, arith}
use Rattle.std.proofs.Math.Path.{ap}
use mathlib.Core.List.{List, ◌∷◌, ◌++◌, [], append_assoc}
use Rattle.words.specs.Words.{reads}
use Rattle.words.specs.WordLaws.{Bytes, length_store, reads_store}
use Rattle.header.specs.Header.{alt_in}
use Rattle.header.proofs.HeaderLaws.{alt_lt}
use Rattle.leaf.specs.Leaf.{view}
use Rattle.leaf.specs.Search.{count}
use Rattle.steps.specs.declared.Step.{Step}
use Rattle.steps.specs.Model.{run}
use Rattle.steps.specs.Encoding.{steps_of}
use Rattle.steps.specs.Refusals.{bad_image}
use Rattle.machine.specs.Taking.{store_word}
use Rattle.image.specs.Chain.{All, Sound}
use Rattle.image.specs.ChainLaws.{Good}
use Rattle.image.proofs.ChainLaws.{all_split, all_join, distinct_at, sound_good}
use Rattle.image.specs.Image.{blocks, leaves}
use Rattle.image.proofs.ImageLaws.{good_length}
use Rattle.image.proofs.WordCalls.{unlink_words, unlink_words_lem}
use Rattle.index.specs.Reading.{chain_of, entries_in}
use Rattle.index.proofs.SoundTest.{sound_chain}
use Rattle.lists.specs.Lists.{head_in, sib_place, unlink_list}
use Rattle.lists.specs.SetDel.{Behind}
use Rattle.lists.proofs.SetDel.{near_block}
use Rattle.writing.specs.Writing.{target_of, before_of, del_of}
use Rattle.image.specs.Map.{without}
use Rattle.demands.proofs.Accepted.{Accepted, Judged}
use Rattle.demands.proofs.Accepted.{judged, del_accepted, del_unlinks}
use Rattle.demands.proofs.Carried.{ran_is}
use Rattle.demands.specs.Demand3.{ran}

module _ (l list : List ℕ) (k : ℕ) (bytes : Bytes l) (e : (del_of l list k).answer ≡ 0) (other : target_of l k ≢ 0)
    (alone : count (leaves l (target_of l k)) ≡ 1) where
  abbrev b : ℕ
  b = target_of l k

  abbrev p : ℕ
  p = before_of l k

  -- the image that the del leaves
  abbrev m : List ℕ
  m = ran l (del_of l list k)

  A : Accepted l list (del_of l list k) (without k (entries_in l)) 7
  A = del_accepted l list k bytes e

  J : Judged l k
  J = judged l k A.fine A.sound

  B : Behind J.front p
  B = J.before other

  around : J.front ++ (b ∷ J.behind) ≡ B.init ++ (p ∷ b ∷ J.behind)
  around = ap (λ (xs : List ℕ). xs ++ (b ∷ J.behind)) B.is ∙ append_assoc B.init (p ∷ []) (b ∷ J.behind)

  S : Sound (leaves l) (blocks l) (B.init ++ (p ∷ b ∷ J.behind))
  S = subst (Sound (leaves l) (blocks l)) around J.sound

  good : Good (leaves l) (blocks l) b
  good =
      (all_split (Good (leaves l) (blocks l)) J.front (b ∷ J.behind) (sound_good (leaves l) (blocks l) J.sound)).1.0

  -- the leaf before has the freed leaf's sibling
  unlinked : Sound (view (unlink_words (reads l) p b)) (blocks l) (B.init ++ (p ∷ J.behind))
  unlinked = elim good.filled [
    | inl z ↦ absurd (other z)
    | inr f ↦ (unlink_words_lem (reads l) (blocks l) B.init p b J.behind S f.at f.taken alone).sound
  ]

  image_is : m ≡ store_word l (sib_place p (alt_in (head_in (reads l) p))) (leaves l b).next
  unfolding unlink_list A
  image_is =
      ran_is l list (del_of l list k) (without k (entries_in l)) 7 A
      ∙ ap (λ (t : List Step). run store_word (steps_of t) l (length t)) (del_unlinks l list k bytes e other alone)

  words_are : reads m ≡ unlink_words (reads l) p b
  words_are =
      let z = good_length l A.fine in
      let n = near_block (leaves l) (blocks l) B.init p (b ∷ J.behind) S z.some in
      ap reads image_is
      ∙ reads_store l (sib_place p (alt_in (head_in (reads l) p))) (leaves l b).next
      (omega (arith, n, z.whole, alt_lt (head_in (reads l) p))) (omega (arith, good.near, z.most))

  pub long : length m ≡ length l
  long = ap length image_is ∙ length_store l (8 * sib_place p (alt_in (head_in (reads l) p))) (leaves l b).next

  left : Sound (leaves m) (blocks m) (B.init ++ (p ∷ J.behind))
  left =
      subst (λ (n : ℕ). Sound (leaves m) n (B.init ++ (p ∷ J.behind))) (ap (λ (n : ℕ). n / 256) (sym long))
      (subst (λ (w : ℕ → ℕ). Sound (view w) (blocks l) (B.init ++ (p ∷ J.behind))) (sym words_are) unlinked)

  chain_is : chain_of m ≡ J.front ++ J.behind
  chain_is =
      sound_chain m (B.init ++ (p ∷ J.behind)) (ap bad_image long ∙ A.fine) left
      ∙ sym (append_assoc B.init (p ∷ []) J.behind) ∙ ap (λ (xs : List ℕ). xs ++ J.behind) (sym B.is)

  pub freed : All (λ x. x ≢ b) (chain_of m)
  freed =
      let d = distinct_at J.front b J.behind J.sound.distinct in
      subst (All (λ x. x ≢ b)) (sym chain_is) (all_join (λ x. x ≢ b) J.front J.behind d.0 d.1)
