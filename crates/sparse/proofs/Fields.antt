-- The ghost fields of a store, as a goal asks for them.
use Rattle.std.proofs.Common.{ℕ, List}
use Rattle.sparse.specs.Arrays.{Room, Perms, Sizes, Table, Fall, Since, Within}

module _ (dom map : List ℕ) (n w : ℕ) (size : List ℕ) (marks : List (List ℕ)) (depth : ℕ) where
  abbrev pub Fields : Type 0
  Fields = record {
    room : Room dom map n w;
    perms : Perms dom map n w;
    sizes : Sizes n w size;
    table : Table marks depth;
    fall : Fall n marks depth;
    since : Since n size marks depth;
    within : Within n w marks depth;
  }

  pub fields : Room dom map n w → Perms dom map n w → Sizes n w size → Table marks depth → Fall n marks depth → Since n size marks depth → Within n w marks depth → Fields
  fields a b c d e f g = record { room = a; perms = b; sizes = c; table = d; fall = e; since = f; within = g }
