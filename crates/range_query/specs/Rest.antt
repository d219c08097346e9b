-- What of an area is outside a box.
use Rattle.std.specs.Prelude.{◌≡◌, ◌≤◌, ℕ, true, not, ◌&&◌, nat_le}
use Rattle.zorder.specs.declared.points.Point.{Point}
use Rattle.zorder.specs.declared.points.Region.{Region}
use Rattle.zorder.specs.Region.{has_point, IsBox}

-- the points of the area that aren't in the box are those of the area that are in this other box
pub record IsRestOf (area region rest : Region) : Type 0 where
  pub is_box : IsBox rest
  pub outside : (p : Point) → has_point area p ≡ true → has_point rest p ≡ not (has_point region p)

-- the same on one axis: of the numbers from lo to hi, the rest are those that aren't from `from` to `to`
pub record IsRestOn (lo hi from to : ℕ) (rest : ℕ × ℕ) : Type 0 where
  pub is_range : rest.0 ≤ rest.1
  pub outside : (n : ℕ) → lo ≤ n → n ≤ hi → (nat_le rest.0 n && nat_le n rest.1) ≡ not (nat_le from n && nat_le n to)
