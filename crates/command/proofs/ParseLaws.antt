-- The cases of `parse_of`, by what `starts_with` says of the line.
use Rattle.std.specs.Prelude.{◌≡◌, refl, Bool, true, false, cond, List, ℕ, eqb, length, Option, Some, None, ◌≢◌}
use Rattle.std.specs.List.{starts_with}
use Rattle.std.proofs.Common.{sym, ◌∙◌, eq-eqb, ne_eqb}
use Rattle.command.specs.Spelling.{put_word, set_word, del_word, get_word, list_word}
use Rattle.command.specs.Reading.{begins, rest_at, pair_at, of_pair, of_key, tabbed, parse_of}
use Rattle.command.specs.declared.Command.{Command}
use Rattle.command.specs.declared.Command.TheVariants.{Put, Set, Del, Get, List as Listing}
use Rattle.command.proofs.ReadingLaws.{begins_is}

module _ (l : List ℕ) where
  abbrev Starts : List ℕ → Bool → Type 0
  Starts w t = starts_with eqb l w ≡ t

  tells : (w : List ℕ) {t : Bool} → Starts w t → begins w l ≡ t
  tells w a = sym (begins_is w l) ∙ a

  pub parse_put : Starts (tabbed put_word) true → parse_of l ≡ of_pair Put (pair_at l 4)
  unfolding parse_of
  parse_put a = rw (tells (tabbed put_word) a)

  pub parse_set : Starts (tabbed put_word) false → Starts (tabbed set_word) true → parse_of l ≡ of_pair Set (pair_at l 4)
  unfolding parse_of
  parse_set a b = rw (tells (tabbed put_word) a, tells (tabbed set_word) b)

  pub parse_del : Starts (tabbed put_word) false → Starts (tabbed set_word) false → Starts (tabbed del_word) true
      → parse_of l ≡ of_key Del (rest_at l 4)
  unfolding parse_of
  parse_del a b c = rw (tells (tabbed put_word) a, tells (tabbed set_word) b, tells (tabbed del_word) c)

  pub parse_get : Starts (tabbed put_word) false → Starts (tabbed set_word) false → Starts (tabbed del_word) false
      → Starts (tabbed get_word) true → parse_of l ≡ of_key Get (rest_at l 4)
  unfolding parse_of
  parse_get a b c d =
      rw (tells (tabbed put_word) a, tells (tabbed set_word) b, tells (tabbed del_word) c, tells (tabbed get_word) d)

  -- with none of the four words, the line is `list` or nothing
  parse_rest : Starts (tabbed put_word) false → Starts (tabbed set_word) false → Starts (tabbed del_word) false
      → Starts (tabbed get_word) false
      → parse_of l ≡ cond (eqb (length l) 4) (cond (begins list_word l) (Some Listing) None) None
  unfolding parse_of
  parse_rest a b c d =
      rw (tells (tabbed put_word) a, tells (tabbed set_word) b, tells (tabbed del_word) c, tells (tabbed get_word) d)

  pub parse_list : Starts (tabbed put_word) false → Starts (tabbed set_word) false → Starts (tabbed del_word) false
      → Starts (tabbed get_word) false → length l ≡ 4 → Starts list_word true → parse_of l ≡ Some Listing
  parse_list a b c d e f = parse_rest a b c d ∙ rw (eq-eqb (length l) 4 e, tells list_word f)

  pub parse_other : Starts (tabbed put_word) false → Starts (tabbed set_word) false → Starts (tabbed del_word) false
      → Starts (tabbed get_word) false → Starts list_word false → parse_of l ≡ None
  parse_other a b c d f = parse_rest a b c d ∙ rw (tells list_word f) (nothing (eqb (length l) 4))
    where
      nothing : (t : Bool) → ◌≡◌ {A = Option Command} (cond t None None) None
      nothing true = refl
      nothing false = refl

  pub parse_long : Starts (tabbed put_word) false → Starts (tabbed set_word) false → Starts (tabbed del_word) false
      → Starts (tabbed get_word) false → length l ≢ 4 → parse_of l ≡ None
  parse_long a b c d n = parse_rest a b c d ∙ rw (ne_eqb (length l) 4 n)

pub ruleset parsing = (parse_put, parse_set, parse_del, parse_get, parse_list, parse_other, parse_long)
