-- The check of a sheet refuses nothing exactly if its layout holds. Assumes nothing.
use Rattle.std.proofs.Common.{◌≡◌, ℕ, ◌+◌, ◌/◌, ◌%◌, ◌<◌, ◌≤◌, Bool, true, false, not, ◌||◌, List, length, ◌≤ℤ◌, Decides, refl, ap, subst, arith}
use Rattle.std.proofs.lemmas.Nat.{div-add-mod', div-mul-add, mod-mul-add, div_below, mul-add-lt}
use Rattle.std.proofs.lemmas.Bool.{false≢true}
use Rattle.std.proofs.lemmas.Bool.Decides.{Decides-and, Decides-eqb}
use Rattle.octets.proofs.Ranges.{decides_leb, decides_le_z, decides_from_to, decides_signed}
use Rattle.refusal.specs.First.{Verdict, Exactly}
use Rattle.refusal.proofs.First.{exactly_ensure, exactly_each, exactly_none, exactly_more, exactly_given, exactly_like}
use Rattle.refusal.specs.declared.Refusal.TheVariants.{SheetTruncated, SheetHead}
use Rattle.scorer.specs.Meaning.{ScoreWithin}
use Rattle.sheet_file.specs.Fields.{width, count, setwidth, entries, node_entry, entry_start, exact_at, bound_at}
use Rattle.sheet_file.specs.Verdict.{Headed, setwidth_lawful, entry_node, scores_within, scores_ordered, score_lawful, order_lawful, head_verdict, length_verdict, setwidths_verdict, scores_verdict, orders_verdict, sheet_verdict}
use Rattle.scorer.specs.Nodes.{node_known, node_ends, node_from}
use Rattle.sheet_file.specs.Laid.{SheetLaid}
use Rattle.sheet_file.specs.Meaning.{sheet_meaning}

-- a test that is asked only where another holds
decides_where : {N P : Type 0} (n t : Bool) → Decides n N → Decides t P → Decides (not n || t) (N → P)
decides_where true t d e = (λ h _. e.0 h, λ f. e.1 (f (d.0 refl)))
decides_where false t d e = (λ _ m. absurd (false≢true (d.1 m)), λ _. refl)

-- entry j is a node
abbrev EntryNode : List ℕ → ℕ → Type 0
EntryNode sheet j = j % width sheet + setwidth sheet (j / width sheet) ≤ width sheet

-- what holds of the entry of each node
abbrev EachNode : List ℕ → (ℕ → Type 0) → Type 0
EachNode sheet P = (x t : ℕ) → t < count sheet → x + setwidth sheet t ≤ width sheet → P (node_entry sheet x t)

abbrev EachSet : List ℕ → Type 0
EachSet sheet = (t : ℕ) → t < count sheet → (1 ≤ setwidth sheet t) × (setwidth sheet t ≤ 64)

abbrev Within : List ℕ → ℕ → Type 0
Within sheet j = ScoreWithin (exact_at sheet j) × ScoreWithin (bound_at sheet j)

abbrev Ordered : List ℕ → ℕ → Type 0
Ordered sheet j = exact_at sheet j ≤ℤ bound_at sheet j

module _ (sheet : List ℕ) where
  -- each node has an entry, and each entry that is a node has its column and template
  module _ (wide : 1 ≤ width sheet) (set : EachSet sheet) where
    entry_is_node : (x t : ℕ) → x < width sheet → x + setwidth sheet t ≤ width sheet → EntryNode sheet (node_entry sheet x t)
    entry_is_node x t low ends =
        let same : setwidth sheet (node_entry sheet x t / width sheet) ≡ setwidth sheet t = ap (setwidth sheet) (div-mul-add t (width sheet) x low) in
        omega (arith, same, mod-mul-add t (width sheet) x low)

    exactly_nodes : (P : ℕ → Type 0) (v : Verdict) → Exactly v ((j : ℕ) → j < entries sheet → EntryNode sheet j → P j) → Exactly v (EachNode sheet P)
    exactly_nodes P v =
        exactly_like v
        (λ all x t h ends.
        let low : x < width sheet = omega (arith, (set t h).0) in
        let inside : node_entry sheet x t < entries sheet = omega (arith, mul-add-lt t (width sheet) x (count sheet) h low) in
        all (node_entry sheet x t) inside (entry_is_node x t low ends))
        (λ all j h node. subst P (div-add-mod' j (width sheet)) (all (j % width sheet) (j / width sheet) (div_below j (width sheet) (count sheet) wide h) node))

    exactly_scores : Exactly (scores_verdict sheet) (EachNode sheet (Within sheet))
    exactly_scores =
        exactly_nodes (Within sheet) (scores_verdict sheet)
        (exactly_each (entries sheet) (score_lawful sheet) _ (λ j. EntryNode sheet j → Within sheet j) (λ j _.
        decides_where (entry_node sheet j) (scores_within sheet j) (decides_leb _ (width sheet))
        (Decides-and _ _ (decides_signed _ _ (exact_at sheet j)) (decides_signed _ _ (bound_at sheet j)))))

    exactly_orders : Exactly (orders_verdict sheet) (EachNode sheet (Ordered sheet))
    exactly_orders =
        exactly_nodes (Ordered sheet) (orders_verdict sheet)
        (exactly_each (entries sheet) (order_lawful sheet) _ (λ j. EntryNode sheet j → Ordered sheet j) (λ j _.
        decides_where (entry_node sheet j) (scores_ordered sheet j) (decides_leb _ (width sheet)) (decides_le_z (exact_at sheet j) (bound_at sheet j))))

  pub exactly_head : Exactly (head_verdict sheet) (Headed sheet)
  exactly_head =
      exactly_like (head_verdict sheet)
      (λ p. record { there = p.0; wide = p.1.0; counted = p.1.1.0 })
      (λ r. (r.there, (r.wide, (r.counted, tt))))
      (exactly_more _ _ (exactly_ensure _ (SheetTruncated (length sheet)) (decides_leb 4 (length sheet)))
      (exactly_more _ _ (exactly_ensure _ (SheetHead 0) (decides_from_to 1 2048 (width sheet)))
      (exactly_more _ _ (exactly_ensure _ (SheetHead 2) (decides_from_to 1 64 (count sheet))) exactly_none)))

  pub exactly_laid : Exactly (sheet_verdict sheet) (SheetLaid sheet)
  unfolding sheet_verdict
  exactly_laid =
      exactly_like (sheet_verdict sheet)
      (λ p. record {
        sized = p.0.there;
        wide = p.0.wide;
        counted = p.0.counted;
        ends = p.1.0;
        set = p.1.1.0;
        scored = λ x t node.
            let h = node_known (sheet_meaning sheet) x t node in
            let ends = node_ends (sheet_meaning sheet) x t node in
            let within = p.1.1.1.0 x t h ends in
            record { exact_within = within.0; bound_within = within.1; not_above = p.1.1.1.1.0 x t h ends };
      })
      (λ r. (
        record { there = r.sized; wide = r.wide; counted = r.counted },
        (r.ends, (r.set, ((λ x t h ends. let s = r.scored x t (node_from (sheet_meaning sheet) x t h ends) in (s.exact_within, s.bound_within)), ((λ x t h ends. (r.scored x t (node_from (sheet_meaning sheet) x t h ends)).not_above), tt)))),
      ))
      (exactly_given (head_verdict sheet) _ exactly_head (λ h.
      exactly_more (length_verdict sheet) _ (exactly_ensure _ _ (Decides-eqb (length sheet) (entry_start sheet (entries sheet))))
      (exactly_given (setwidths_verdict sheet) _ (exactly_each (count sheet) (setwidth_lawful sheet) _ _ (λ t _. decides_from_to 1 64 (setwidth sheet t))) (λ set.
      exactly_more (scores_verdict sheet) _ (exactly_scores h.wide.0 set)
      (exactly_more (orders_verdict sheet) _ (exactly_orders h.wide.0 set) exactly_none)))))
