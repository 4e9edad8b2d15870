-- "2. On every sound image find, put, set, del and listing agree with a plain map from 64-bit keys to 64-bit values, and the
-- steps made are exactly document 01's. Run to the end they give the map after the call, every store settled. Cut after any
-- number of steps, each line holding any permitted number of its stores, they leave a sound image whose map is the one before or
-- the one after."
--
-- The steps are document 01's by the calls' contracts (`put_of`, `set_of`, `del_of` write `put_list`, `set_list`, `del_list`). Here is
-- that find and listing answer from the map (`agrees`), and what running and cutting the lists leaves (`demand2`): for every image
-- of bytes, key, value and list, with no hypothesis but that the call was accepted.
use Rattle.std.specs.Prelude.{◌≡◌, false, List, ℕ, length}
use Rattle.std.proofs.Common.{inl, inr}
use Rattle.steps.specs.Refusals.{bad_image}
use Rattle.words.specs.WordLaws.{Bytes}
use Rattle.image.specs.Map.{put_in, without}
use Rattle.image.specs.Image.{SoundImage}
use Rattle.index.specs.Reading.{entries_in}
use Rattle.lists.specs.Served.{per_put, per_change}
use Rattle.demands.specs.Holds.{Holds}
use Rattle.demands.proofs.Accepted.{set_accepted, del_accepted, put_accepted}
use Rattle.demands.proofs.Carried.{Carried}
use Rattle.demands.proofs.Carried.{carried, sound_holds, left_holds}
use Rattle.demands.specs.Demand2.{Call, Demanded, Numbers, after, answered, del, put, set}
use Rattle.std.specs.Prelude.{◌≡◌, List, ℕ}

-- ---- what each call may cost, for demand 3

abbrev pub price : Call → ℕ
price (put k v) = per_put
price (set k v) = per_change
price (del k) = per_change

pub carried_call : (call : Call) (image list : List ℕ) → Bytes image → Numbers call → (answered call image list).answer ≡ 0
    → Carried image (answered call image list) (after call (entries_in image)) (price call)
carried_call (put k v) image list b n e =
    carried image list _ (put_in k v (entries_in image)) per_put (put_accepted image list k b v n.0 n.1 e)
carried_call (set k v) image list b n e =
    carried image list _ (put_in k v (entries_in image)) per_change (set_accepted image list k b v n.1 e)
carried_call (del k) image list b n e =
    carried image list _ (without k (entries_in image)) per_change (del_accepted image list k b e)

-- ---- THE DEMAND

-- "On every sound image find, (..) and listing agree with a plain map"
pub agrees : (image : List ℕ) → bad_image (length image) ≡ false → SoundImage image → Holds image (entries_in image)
agrees = sound_holds

pub demand2 : (call : Call) (image list : List ℕ) → Bytes image → Numbers call → (answered call image list).answer ≡ 0
    → Demanded call image list
demand2 call image list b n e =
    let C = carried_call call image list b n e in
    record {
      accepted = C.accepted;
      whole = left_holds C.fine C.whole;
      settled = C.settled;
      cut = λ m arrivals h a. elim (C.cuts m arrivals h a) [
        | inl x ↦ inl (left_holds C.fine x)
        | inr x ↦ inr (left_holds C.fine x)
      ];
    }
