-- The blocks to come are of the image, and what is left to write gives what the whole chain gives.
use Rattle.std.proofs.Common.{◌≡◌, ◌-◌, ◌<◌, ◌≤◌}
use Rattle.leaf.specs.Leaf.{Right}
use Rattle.image.specs.Image.{blocks, leaves}
use Rattle.index.specs.Reading.{chain_from}
use Rattle.index.specs.Filling.{buffers, fill}
use Rattle.index.specs.ListingLaws.{list_from}
use Rattle.index.proofs.Along.{Ahead}
use Rattle.index.proofs.listing.list_chain.Given as goal

abbrev pub invariant-loop-turn : goal.invariant-loop-turn
invariant-loop-turn l = record {
  fit : l.n ≤ l.room;
  ahead : Ahead (leaves l.image) (blocks l.image) l._turn l.block (λ c. (c < blocks l.image) × Right (leaves l.image c));
  left : fill l.room (list_from (leaves l.image) l.lo (chain_from (leaves l.image) (blocks l.image - l._turn) l.block))
      (buffers l.n l.keys l.values)
      ≡ fill l.room (list_from (leaves l.image) l.fn.from (chain_from (leaves l.image) (blocks l.image) l.fn.target))
      (buffers 0 l.fn.keys l.fn.values);
}
