-- What the checker has to open to compute a call whole, for the statements that are proved by computing.
use Rattle.words.specs.Words.{reads, word_at, store_at}
use Rattle.words.specs.Below.{any_below, count_below}
use Rattle.header.specs.Fields.{field, patched}
use Rattle.header.specs.Header.{alt_in, fingerprint_in, fingerprint_of, is_locked, is_occupied, marked, xor_of_bytes, cleared, flipped}
use Rattle.leaf.specs.Leaf.{block, occ_in, view}
use Rattle.leaf.specs.Search.{count, holds_key, lowest, lowest_vacant, slot_of, closest, least_from}
use Rattle.leaf.specs.Tally.{at_most, most_to, shares, twin_at, twins, wrong_at}
use Rattle.steps.specs.Model.{is_settled}
use Rattle.steps.specs.Encoding.{decode, written}
use Rattle.steps.specs.Refusals.{bad_image}
use Rattle.machine.specs.Taking.{bad_arrivals, bad_list}
use Rattle.survey.specs.Walk.{fault_of, judged, surveyed, walk}
use Rattle.image.specs.Map.{lookup}
use Rattle.image.specs.Order.{slots_from, slots_of}
use Rattle.image.specs.Entries.{entries_at, entries_of, list_of}
use Rattle.image.specs.Copies.{copies}
use Rattle.verdict.specs.Place.{target_from, before_from}
use Rattle.index.specs.Reading.{chain_from, chain_of, entries_in, is_sound, find_of, recovery_of}
use Rattle.lists.specs.Lists.{near_put, put_at, far_put, filled_head, copies_beside, plain_put, unlink_list, clear_list, is_alone, del_list}
use Rattle.lists.specs.FullLists.{put_list, full_put, goes_up, moved_slots, split_list}
use Rattle.writing.specs.Writing.{put_of, del_of}

unfoldable pub computing : Unit {0}
unfolding reads word_at store_at field patched alt_in fingerprint_in fingerprint_of is_locked is_occupied marked xor_of_bytes cleared
    flipped block occ_in view count count_below holds_key lowest lowest_vacant slot_of closest least_from at_most most_to shares any_below
    twin_at twins wrong_at is_settled decode written bad_image bad_arrivals bad_list fault_of judged surveyed walk lookup slots_from
    slots_of entries_at entries_of list_of copies target_from before_from chain_from chain_of entries_in is_sound find_of recovery_of near_put put_at
    far_put filled_head copies_beside plain_put unlink_list clear_list is_alone del_list put_list full_put goes_up moved_slots split_list
    put_of del_of
computing = tt
