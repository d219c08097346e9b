-- Fresh cells lead to the state that they represent.
use Rattle.std.proofs.Common.{◌≡◌, ℕ, zero, suc, ◌+◌, ◌<◌, ◌≤◌, Bool, true, false, not, ◌==◌, List, [], ◌∷◌, ◌++◌, length, take, drop, get_or, cond, Some, None, is_some, refl, sym, ◌∙◌, ap, subst, arith, append_assoc, length-take}
use Rattle.std.specs.Prelude.{nat_le, ◌||◌}
use Rattle.std.specs.List.{AllByRecursion}
use Rattle.std.specs.Option.{option_map_or}
use Rattle.std.specs.Cmp.Derive.{both_true}
use Rattle.std.proofs.lemmas.Bool.{eq-eqb, le-leb}
use Rattle.std.proofs.lemmas.Bool.Decides.{nat_tests}
use Rattle.std.proofs.lemmas.List.{append-nil, take_all, drop_all, drop_more}
use Rattle.zorder.specs.SameName.{same_name-decides}
use Rattle.zorder.specs.Tile.{children}
use Rattle.cell_format.specs.declared.cell.Cell.{Cell}
use Rattle.plain_list.specs.declared.world.Member.{Member}
use Rattle.plain_list.specs.declared.ops.Op.TheVariants.{Put}
use Rattle.plain_list.specs.declared.ops.Answer.TheVariants.{Present, Full, Done}
use Rattle.plain_list.specs.World.{World, IsWorld, most_members, is_full, position_of}
use Rattle.plain_list.specs.Answer.{is_change, after_of}
use Rattle.plain_list.specs.State.{State, is_leaf, split_leaf, installed, ComesBySplits}
use Rattle.plain_list.proofs.PlacesOf.{length-places_of}
use Rattle.plain_list.proofs.RisingMembers.{position_of-next, with_member-next}
use Rattle.plain_list.proofs.IdSearches.{after_put-new}
use Rattle.log_state.specs.Recovers.{is_legal_cells, cells_after, state_of, IsLegalCells}
use Rattle.log_state.proofs.LegalCells.{legal-append, cells_after-append}
use Rattle.log_compact.specs.Fresh.{split_cells, put_cells, fresh_cells, inner_names}
use Rattle.log_compact.specs.Walk.{AreShort}
use Rattle.log_compact.specs.State.{IsStateOf}
use Rattle.log_compact.proofs.Order.{is_left, left-before, left-more, before-differ, all-append, all-weaken}
use Rattle.zorder.specs.Width.{IsWidth}
use Rattle.log_compact.proofs.Forest.{Forest, none, leaf, split, forest_of, ArePartedFrom, AreParted, IsChild, children_are, split-room}
use Rattle.log_compact.proofs.Inner.{inner_names-forest, AreLeft, parted-children}

-- A state without an open split.
abbrev pub settled : World → List (List Bool) → ℕ → State
settled world leaves begun = record { world = world; leaves = leaves; splits = []; begun = begun }

-- The name is among the leaves, and they are split there.
is_leaf-at : (before roots : List (List Bool)) (name : List Bool) → AllByRecursion (λ b. is_left b name ≡ true) before → is_leaf (before ++ name ∷ roots) name ≡ true
is_leaf-at [] roots name left = ap (λ t. t || is_leaf roots name) ((same_name-decides name name).1 refl)
is_leaf-at (b ∷ before) roots name left = ap (λ t. t || is_leaf (before ++ name ∷ roots) name) (before-differ b name (left-before b name left.0)) ∙ is_leaf-at before roots name left.1

split_leaf-at : (w : ℕ) (before roots : List (List Bool)) (name : List Bool) → AllByRecursion (λ b. is_left b name ≡ true) before
    → split_leaf w name (before ++ name ∷ roots) ≡ before ++ (children w name ++ roots)
split_leaf-at w [] roots name left = ap (λ t. cond t (children w name ++ roots) (name ∷ split_leaf w name roots)) ((same_name-decides name name).1 refl)
split_leaf-at w (b ∷ before) roots name left =
    ap (λ t. cond t (children w name ++ (before ++ name ∷ roots)) (b ∷ split_leaf w name (before ++ name ∷ roots))) (before-differ b name (left-before b name left.0))
    ∙ ap (λ (l : List (List Bool)). b ∷ l) (split_leaf-at w before roots name left.1)

-- Cells that are legal from one state on, and lead to another one.
record Leads_to (w : ℕ) (from to : State) (cells : List Cell) : Type 0 where
  legal : is_legal_cells w from cells ≡ true
  after : cells_after w from cells ≡ to

-- The begin and the install of a leaf.
module _ (w : ℕ) (world : World) (before roots : List (List Bool)) (name : List Bool) (k : ℕ) (left : AllByRecursion (λ b. is_left b name ≡ true) before) (room : length name + w ≤ 64) where
  number : ((k + 1) == (k + 1)) ≡ true
  number = eq-eqb (k + 1) (k + 1) refl

  one_open : State
  one_open = record { world = world; leaves = before ++ name ∷ roots; splits = record { number = k + 1; name = name } ∷ []; begun = k + 1 }

  now_installed : State
  now_installed = record {
    world = world;
    leaves = installed w (cond ((k + 1) == (k + 1)) (Some name) None) (before ++ name ∷ roots);
    splits = cond (not ((k + 1) == (k + 1))) (record { number = k + 1; name = name } ∷ []) [];
    begun = k + 1;
  }

  installed-is : now_installed ≡ settled world (before ++ (children w name ++ roots)) (k + 1)
  unfolding now_installed
  installed-is =
      (λ i. record {
        world = world;
        leaves = installed w (cond (number i) (Some name) None) (before ++ name ∷ roots);
        splits = cond (not (number i)) (record { number = k + 1; name = name } ∷ []) [];
        begun = k + 1;
      })
      ∙ ap (λ (l : List (List Bool)). settled world l (k + 1)) (split_leaf-at w before roots name left)

  goes_on : (inner : List (List Bool)) (to : State) → Leads_to w (settled world (before ++ (children w name ++ roots)) (k + 1)) to (split_cells (k + 1 + 1) inner)
      → Leads_to w (settled world (before ++ name ∷ roots) k) to (split_cells (k + 1) (name ∷ inner))
  unfolding now_installed
  goes_on inner to rest = record {
    legal = both_true (both_true number (both_true (is_leaf-at before roots name left) (le-leb (length name + w) 64 room)))
        (both_true (ap (λ t. is_some (cond t (Some name) None)) number) (ap (λ s. is_legal_cells w s (split_cells (k + 1 + 1) inner)) installed-is ∙ rest.legal));
    after = ap (λ s. cells_after w s (split_cells (k + 1 + 1) inner)) installed-is ∙ rest.after;
  }

-- What is left of a name is left of its children, and of other roots.
left-split : (w : ℕ) → IsWidth w → (name : List Bool) (before roots : List (List Bool)) → AreLeft before (name ∷ roots) → AreLeft before (children w name ++ roots)
left-split w width name before roots left =
    let cs = children_are w name width in
    all-weaken (λ b. ArePartedFrom b (name ∷ roots)) (λ b. ArePartedFrom b (children w name ++ roots))
    (λ b all. all-append (λ c. is_left b c ≡ true) (children w name) roots
    (all-weaken (IsChild w name) (λ c. is_left b c ≡ true)
    (λ c is. subst (λ (m : List Bool). is_left b m ≡ true) (sym is.is) (subst (λ (m : List Bool). is_left m (name ++ is.bits) ≡ true) (append-nil b) (left-more b name [] is.bits all.0)))
    (children w name) cs.grown)
    all.1)
    before left

left-head : (before roots : List (List Bool)) (name : List Bool) → AreLeft before (name ∷ roots) → AllByRecursion (λ b. is_left b name ≡ true) before
left-head before roots name left = all-weaken (λ b. ArePartedFrom b (name ∷ roots)) (λ b. is_left b name ≡ true) (λ b all. all.0) before left

left-tail : (before roots : List (List Bool)) (name : List Bool) → AreLeft before (name ∷ roots) → ArePartedFrom name roots → AreLeft (before ++ name ∷ []) roots
left-tail before roots name left parted =
    all-append (λ b. ArePartedFrom b roots) before (name ∷ []) (all-weaken (λ b. ArePartedFrom b (name ∷ roots)) (λ b. ArePartedFrom b roots) (λ b all. all.1) before left) (parted, tt)

-- The splits lead from roots to leaves.
splits-lead : (w : ℕ) → IsWidth w → (roots leaves inner : List (List Bool)) → Forest w roots leaves inner → (world : World) (before : List (List Bool)) (k : ℕ)
    → AreLeft before roots → AreParted roots → AreShort leaves
    → Leads_to w (settled world (before ++ roots) k) (settled world (before ++ leaves) (k + length inner)) (split_cells (k + 1) inner)
splits-lead w width _ _ _ none world before k left parted short =
    let same : k ≡ k + 0 = omega arith in
    record { legal = refl; after = ap (settled world (before ++ [])) same }
splits-lead w width _ _ _ (leaf n roots leaves inner f) world before k left parted short =
    let rest = splits-lead w width roots leaves inner f world (before ++ n ∷ []) k (left-tail before roots n left parted.0) parted.1 short.1 in
    subst (λ (l : List (List Bool)). Leads_to w (settled world l k) (settled world (before ++ (n ∷ leaves)) (k + length inner)) (split_cells (k + 1) inner)) (append_assoc before (n ∷ []) roots)
    (subst (λ (l : List (List Bool)). Leads_to w (settled world ((before ++ n ∷ []) ++ roots) k) (settled world l (k + length inner)) (split_cells (k + 1) inner)) (append_assoc before (n ∷ []) leaves) rest)
splits-lead w width _ _ _ (split n roots leaves inner f) world before k left parted short =
    let room = split-room w width n roots leaves inner f short in
    let rest = splits-lead w width (children w n ++ roots) leaves inner f world before (k + 1) (left-split w width n before roots left) (parted-children w width n roots parted.0 parted.1) short in
    let count : k + 1 + length inner ≡ k + suc (length inner) = omega arith in
    goes_on w world before roots n k (left-head before roots n left) room inner (settled world (before ++ leaves) (k + suc (length inner)))
    (subst (λ m. Leads_to w (settled world (before ++ (children w n ++ roots)) (k + 1)) (settled world (before ++ leaves) m) (split_cells (k + 1 + 1) inner)) count rest)

-- The puts lead from the objects before one to all.
puts-lead : (w : ℕ) (world : World) → IsWorld world → (leaves : List (List Bool)) (k j i : ℕ) → i + j ≡ length world
    → Leads_to w (settled (take i world) leaves k) (settled world leaves k) (put_cells (drop i world))
puts-lead w world is leaves k zero i e =
    let none : drop i world ≡ [] = drop_all i world (omega (arith, e)) in
    subst (λ (l : World). Leads_to w (settled (take i world) leaves k) (settled world leaves k) (put_cells l)) (sym none)
    (record { legal = refl; after = ap (λ (l : World). settled l leaves k) (take_all i world (omega (arith, e))) })
puts-lead w world is leaves k (suc j) i e =
    let d : Member = record { id = 0; at = record { x = 0; y = 0 }; moment = 0 } in
    let lt : i < length world = omega (arith, e) in
    let m : Member = get_or world i d in
    let none : position_of (take i world) m.id ≡ None = position_of-next world i d lt is.rising in
    let room : length (take i world) < most_members = omega (arith, length-take i world, lt, is.size, length-places_of world) in
    let not_full : is_full (take i world) ≡ false = full-not (length (take i world)) room in
    let rest = puts-lead w world is leaves k j (i + 1) (omega (arith, e)) in
    let next : after_of (take i world) (Put m.id m.at m.moment) ≡ take (i + 1) world = after_put-new m (take i world) none room ∙ with_member-next world i d lt is.rising in
    let possible : is_change (option_map_or Present (position_of (take i world) m.id) (cond (is_full (take i world)) Full Done)) ≡ true =
    (λ t. is_change (option_map_or Present (none t) (cond (not_full t) Full Done))) in
    subst (λ (l : World). Leads_to w (settled (take i world) leaves k) (settled world leaves k) (put_cells l)) (sym (drop_more world i d lt))
    (record {
      legal = both_true possible (ap (λ (l : World). is_legal_cells w (settled l leaves k) (put_cells (drop (i + 1) world))) next ∙ rest.legal);
      after = ap (λ (l : World). cells_after w (settled l leaves k) (put_cells (drop (i + 1) world))) next ∙ rest.after;
    })
  where
    full-not : (n : ℕ) → n < most_members → nat_le most_members n ≡ false
    full-not n lt = grind (arith, nat_tests)

-- The fresh cells lead to their world and their leaves, by a split of each inner name.
fresh_leads : (w : ℕ) → IsWidth w → (world : World) (leaves : List (List Bool)) → IsWorld world → ComesBySplits w leaves → AreShort leaves
    → Leads_to w (settled [] ([] ∷ []) 0) (settled world leaves (length (inner_names w leaves))) (fresh_cells w world leaves)
fresh_leads w width world leaves is by short =
    let (inner, f) = forest_of w leaves by in
    let split = splits-lead w width ([] ∷ []) leaves inner f [] [] 0 tt (tt, tt) short in
    let put = puts-lead w world is leaves (0 + length inner) (length world) 0 (omega arith) in
    let cells : List Cell = split_cells 1 inner ++ put_cells world in
    let count : 0 + length inner ≡ length inner = omega arith in
    let after : state_of w cells ≡ settled world leaves (0 + length inner) =
    cells_after-append w (settled [] ([] ∷ []) 0) (split_cells 1 inner) (put_cells world) ∙ ap (λ s. cells_after w s (put_cells world)) split.after ∙ put.after in
    let legal : IsLegalCells w cells =
    legal-append w (settled [] ([] ∷ []) 0) (split_cells 1 inner) (put_cells world) split.legal (ap (λ s. is_legal_cells w s (put_cells world)) split.after ∙ put.legal) in
    subst (λ (l : List (List Bool)). Leads_to w (settled [] ([] ∷ []) 0) (settled world leaves (length l)) (split_cells 1 l ++ put_cells world))
    (sym (inner_names-forest w width leaves inner f))
    (record { legal = legal; after = after ∙ ap (settled world leaves) count })

-- Fresh cells are legal, and lead to their world and their leaves.
pub fresh_state : (w : ℕ) → IsWidth w → (world : World) (leaves : List (List Bool)) → IsWorld world → ComesBySplits w leaves → AreShort leaves → IsStateOf w (fresh_cells w world leaves) world leaves
fresh_state w width world leaves is by short =
    let leads = fresh_leads w width world leaves is by short in
    record { legal = leads.legal; world_is = ap (λ s. s.world) leads.after; leaves_are = ap (λ s. s.leaves) leads.after; at_rest = ap (λ s. s.splits) leads.after }

-- Each inner name was begun.
pub fresh_begun : (w : ℕ) → IsWidth w → (world : World) (leaves : List (List Bool)) → IsWorld world → ComesBySplits w leaves → AreShort leaves
    → (state_of w (fresh_cells w world leaves)).begun ≡ length (inner_names w leaves)
fresh_begun w width world leaves is by short = ap (λ s. s.begun) (fresh_leads w width world leaves is by short).after
