-- Laws of listings, which the definitions alone give.
use Rattle.std.specs.Prelude.{◌≡◌, ℕ, List}
use Rattle.rt_object.specs.declared.object.ObjectParts.{ObjectParts}
use Rattle.rt_report.specs.Listing.{IsListing}

-- An object has one listing.
abbrev pub HasOneListing : Type 0
HasOneListing = (o : ObjectParts) (text other : List ℕ) → IsListing o text → IsListing o other → text ≡ other
