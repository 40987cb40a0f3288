-- A position, on entries and on prefixes: where the entries xs stand for the prefixes ps, the best of their children's entries
-- stand for the best of the prefixes' children.
-- Assumes nothing.
use mathlib.Core.Path.{◌≡◌, refl, sym, ap, ◌∙◌}
use mathlib.Core.Bool.{Bool}
use mathlib.Core.List.{List, [], ◌∷◌, ◌++◌, map, map-append, append-nil, append_assoc}
use Prim.Native.Nat.{ℕ, zero, suc, ◌+◌, ◌*◌, ◌%◌, ◌≤◌, ◌<◌}
use native.Mathlib.Omega.{arith}
use native.Mathlib.Nat.{le_refl}
use lib.ListN.{length, take, drop, get_or, length-append, length-map}
use lib.Seq.{take-suc, take-length}
use lib.Dec.{leb}
use Rattle.spec.specs.Decoder.{sort_by, lex_before, continued, families}
use Rattle.laws.specs.ListCost.{cheaper, All, none, more, all_sort, all_take, all_drop, all_append, all_map, all_under, Long}
use Rattle.laws.specs.CeilingCost.{least_of}
use Rattle.live.specs.Entries.{code_of, cost_of, place_of, bit_of, parent_of, lex_of, branches, first_of, children_of}
use Rattle.live.specs.Rising.{Pairs, none₂, more₂}
use Rattle.live.specs.Lists.{entries, entries_count, Holds}
use Rattle.live.specs.Lost.{lost_with}
use Rattle.live.specs.declared.Live.{Live}
use Rattle.live.specs.Stands.{Rep, Bred, Step, CostsAre, BitsAre, Kept, Position}
use Rattle.live.proofs.Sorting.{all_at, pairs_of, pairs_append, sort_agree, get_d_map, map_take, map_drop, map_sort, maps_agree}
use Rattle.live.proofs.Lexical.{lex_child, lex_lt, lex_agree, place_code, code_order}

-- a child: the rank of its parent, and its bit
record Child : Type 0 where
  at : ℕ
  bit : ℕ

record Good (m : ℕ) (k : Child) : Type 0 where
  at< : k.at < m
  bit≤ : k.bit ≤ 1

abbrev prefix_at : List (List ℕ) → Child → List ℕ
prefix_at ps k = get_or ps k.at [] ++ k.bit ∷ []

abbrev place_at : List ℕ → Child → ℕ
place_at xs k = 2 * lex_of xs (get_or xs k.at 0) + k.bit

abbrev code_at : (List ℕ → ℕ) → List (List ℕ) → List ℕ → Child → ℕ
code_at cost ps xs k = code_of (cost (prefix_at ps k)) (place_at xs k) k.at

module _ (cost : List ℕ → ℕ) (n : ℕ) (ps : List (List ℕ)) (xs : List ℕ) (R : Rep n ps xs) (few : length ps ≤ 32) where
  abbrev Ours : Child → Type 0
  Ours = Good (length ps)

  place< : (k : Child) → Ours k → place_at xs k < 134217728
  place< k g =
      let c : length xs ≡ length ps = R.counted in
      let a : k.at < length ps = g.at< in
      let b : k.bit ≤ 1 = g.bit≤ in
      omega (arith, lex_lt xs k.at (omega arith) (omega arith))

  place_is : (k : Child) → Ours k → place_of (code_at cost ps xs k) ≡ place_at xs k
  place_is k g =
      let a : k.at < length ps = g.at< in
      place_code (cost (prefix_at ps k)) (place_at xs k) k.at (place< k g) (omega arith)

  child_lex : (a b : Child) → Ours a → Ours b → lex_before (prefix_at ps a) (prefix_at ps b) ≡ leb (place_at xs a) (place_at xs b)
  child_lex a b g h =
      let c : length xs ≡ length ps = R.counted in
      let i : a.at < length ps = g.at< in
      let j : b.at < length ps = h.at< in
      lex_child (get_or ps a.at []) (get_or ps b.at []) _ _ a.bit b.bit (all_at [] a.at i R.sized ∙ sym (all_at [] b.at j R.sized))
      (R.agree a.at b.at i j ∙ lex_agree xs a.at b.at (omega arith) (omega arith))
      (R.agree b.at a.at j i ∙ lex_agree xs b.at a.at (omega arith) (omega arith))
      g.bit≤ h.bit≤

  child_order : (a b : Child) → Ours a → Ours b → a.at ≤ b.at → cheaper cost (prefix_at ps a) (prefix_at ps b) ≡ leb (code_at cost ps xs a) (code_at cost ps xs b)
  child_order a b g h r =
      let j : b.at < length ps = h.at< in
      rw (child_lex a b g h) (code_order (cost (prefix_at ps a)) (cost (prefix_at ps b)) _ _ _ _ (place< a g) (place< b h) r (omega arith))

  child_long : (k : Child) → Ours k → Long (n + 1) (prefix_at ps k)
  child_long k g = length-append (get_or ps k.at []) (k.bit ∷ []) ∙ ap (◌+ 1) (all_at [] k.at g.at< R.sized)

  child_bred : (k : Child) → Ours k → Bred cost ps (prefix_at ps k) (code_at cost ps xs k)
  child_bred k g =
      let p : place_at xs k < 134217728 = place< k g in
      let a : k.at < length ps = g.at< in
      let b : k.bit ≤ 1 = g.bit≤ in
      let e : bit_of (code_at cost ps xs k) ≡ k.bit = omega arith in
      let f : parent_of (code_at cost ps xs k) ≡ k.at = omega arith in
      record { costs = omega arith; parent = omega arith; child = rw (e, f) }

  -- entries stand for the children that they are made of
  stand : (ks : List Child) → All Ours ks → Step cost (n + 1) ps (map (prefix_at ps) ks) (map (code_at cost ps xs) ks)
  stand ks good =
      let d : Child = record { at = 0; bit = 0 } in
      let f = prefix_at ps in
      let g = code_at cost ps xs in
      let m : length (map f ks) ≡ length ks = length-map ks f in
      record {
        rep = record {
          counted = length-map ks g ∙ sym m;
          sized = all_under f (Long (n + 1)) (all_map child_long good);
          agree = λ i j h k.
              let h' : i < length ks = omega arith in
              let k' : j < length ks = omega arith in
              let a : Ours (get_or ks i d) = all_at d i h' good in
              let b : Ours (get_or ks j d) = all_at d j k' good in
              rw (get_d_map f ks i d [] h', get_d_map f ks j d [] k', get_d_map g ks i d 0 h', get_d_map g ks j d 0 k', place_is (get_or ks i d) a, place_is (get_or ks j d) b)
              (child_lex (get_or ks i d) (get_or ks j d) a b);
        };
        bred = λ i h.
            let h' : i < length ks = omega arith in
            rw (get_d_map f ks i d [] h', get_d_map g ks i d 0 h') (child_bred (get_or ks i d) (all_at d i h' good));
      }

  -- children in order: their prefixes by cost, and their entries as numbers
  record Sorted (ks : List Child) : Type 0 where
    kids : List Child
    good : All Ours kids
    prefixes : map (prefix_at ps) kids ≡ sort_by (cheaper cost) (map (prefix_at ps) ks)
    codes : map (code_at cost ps xs) kids ≡ sort_by leb (map (code_at cost ps xs) ks)

  sorted : (ks : List Child) → All Ours ks → Pairs (λ (a b : Child). a.at ≤ b.at) ks → Sorted ks
  sorted ks good inorder =
      let f = prefix_at ps in
      let g = code_at cost ps xs in
      let le_p : Child → Child → Bool = λ a b. cheaper cost (f a) (f b) in
      let le_c : Child → Child → Bool = λ a b. leb (g a) (g b) in
      record {
        kids = sort_by le_p ks;
        good = all_sort le_p good;
        prefixes = map_sort f (cheaper cost) ks;
        codes = ap (map g) (sort_agree le_p le_c (pairs_of child_order good inorder)) ∙ map_sort g leb ks;
      }

  -- the best l stand for their prefixes, and the others have their costs
  best_step : (l : ℕ) {ks : List Child} → Sorted ks
      → Step cost (n + 1) ps (take l (sort_by (cheaper cost) (map (prefix_at ps) ks))) (take l (sort_by leb (map (code_at cost ps xs) ks)))
  best_step l o =
      rw (← o.prefixes, ← o.codes, ← map_take (prefix_at ps) l o.kids, ← map_take (code_at cost ps xs) l o.kids)
      (stand (take l o.kids) (all_take l o.good))

  rest_costs : (l : ℕ) {ks : List Child} → Sorted ks
      → map cost_of (drop l (sort_by leb (map (code_at cost ps xs) ks))) ≡ map cost (drop l (sort_by (cheaper cost) (map (prefix_at ps) ks)))
  rest_costs l o =
      rw (← o.prefixes, ← o.codes, ← map_drop (prefix_at ps) l o.kids, ← map_drop (code_at cost ps xs) l o.kids)
      (maps_agree (code_at cost ps xs) cost_of (prefix_at ps) cost (λ k g. (child_bred k g).costs) (all_drop l o.good))

-- ---- the children of the first prefixes at a position
all_branches : {A : Type 0} (P : A → Type 0) (f : ℕ) (a b : A) → P a → P b → All P (branches f a b)
all_branches P zero a b p q = more p (more q none)
all_branches P (suc f) a b p q = more p none

map_branches : {A B : Type 0} (g : A → B) (f : ℕ) (a b : A) → map g (branches f a b) ≡ branches f (g a) (g b)
map_branches g zero a b = refl
map_branches g (suc f) a b = refl

same_branches : (f a b c d : ℕ) → a ≡ c → (f ≡ 0 → b ≡ d) → branches f a b ≡ branches f c d
same_branches zero a b c d p q = rw (p, q refl)
same_branches (suc f) a b c d p q = rw p

continued_is : (f b : ℕ) (w : List ℕ) → continued f b w ≡ branches f (w ++ first_of f b ∷ []) (w ++ 1 ∷ [])
continued_is zero b w = refl
continued_is (suc f) b w = refl

families_snoc : (g : List ℕ → List (List ℕ)) (ws : List (List ℕ)) (w : List ℕ) → families g (ws ++ w ∷ []) ≡ families g ws ++ g w
families_snoc g [] w = append-nil (g w)
families_snoc g (v ∷ ws) w = rw (families_snoc g ws w, append_assoc)

abbrev to : ℕ → ℕ → Child
to b i = record { at = i; bit = b }

-- B gives the bit of the first child by rank
module _ (f : ℕ) (B : ℕ → ℕ) (B≤ : (i : ℕ) → B i ≤ 1) where
  child_list : ℕ → List Child
  child_list zero = []
  child_list (suc i) = child_list i ++ branches f (to (B i) i) (to 1 i)

  list_good : (m i : ℕ) → i ≤ m → All (Good m) (child_list i)
  unfolding child_list
  list_good m zero h = none
  list_good m (suc i) h =
      all_append (list_good m i (omega arith))
      (all_branches (Good m) f (to (B i) i) (to 1 i) (record { at< = omega arith; bit≤ = B≤ i }) (record { at< = omega arith; bit≤ = omega arith }))

  after : (i : ℕ) (k : Child) → Good i k → All (λ (b : Child). k.at ≤ b.at) (branches f (to (B i) i) (to 1 i))
  after i k g =
      let h : k.at < i = g.at< in
      all_branches (λ (b : Child). k.at ≤ b.at) f (to (B i) i) (to 1 i) (omega arith) (omega arith)

  list_order : (i : ℕ) → Pairs (λ (a b : Child). a.at ≤ b.at) (child_list i)
  unfolding child_list
  list_order zero = none₂
  list_order (suc i) = pairs_append (list_order i) (go f) (all_map (after i) (list_good i i (omega arith)))
    where
      go : (f : ℕ) → Pairs (λ (a b : Child). a.at ≤ b.at) (branches f (to (B i) i) (to 1 i))
      go zero = more₂ (more (le_refl i) none) (more₂ none none₂)
      go (suc f) = more₂ none none₂

  module _ (rule : List ℕ → ℕ) where
    abbrev kids : List ℕ → List (List ℕ)
    kids w = continued f (rule w) w

    list_prefixes : (ps : List (List ℕ)) → ((i : ℕ) → i < length ps → B i ≡ first_of f (rule (get_or ps i []))) → (i : ℕ) → i ≤ length ps
        → map (prefix_at ps) (child_list i) ≡ families kids (take i ps)
    unfolding child_list
    list_prefixes ps own zero h = refl
    list_prefixes ps own (suc i) h =
        rw (
          map-append (prefix_at ps) (child_list i),
          list_prefixes ps own i (omega arith),
          map_branches (prefix_at ps) f (to (B i) i) (to 1 i),
          take-suc ps i [] h,
          families_snoc kids (take i ps) (get_or ps i []),
          continued_is f (rule (get_or ps i [])) (get_or ps i []),
          own i h,
        )

    all_prefixes : (ps : List (List ℕ)) → ((i : ℕ) → i < length ps → B i ≡ first_of f (rule (get_or ps i [])))
        → map (prefix_at ps) (child_list (length ps)) ≡ families kids ps
    all_prefixes ps own = list_prefixes ps own (length ps) (omega arith) ∙ ap (families kids) (take-length ps)

  module _ (cost : List ℕ → ℕ) (ps : List (List ℕ)) (xs bs cs ds : List ℕ) (is : (i : ℕ) → B i ≡ get_or bs i 0 % 2) (zeros : CostsAre cost (λ i. get_or bs i 0 % 2) cs ps)
      (ones : f ≡ 0 → CostsAre cost (λ i. 1) ds ps) where
    list_codes : (i : ℕ) → i ≤ length ps → map (code_at cost ps xs) (child_list i) ≡ children_of f xs bs cs ds i
    unfolding child_list
    list_codes zero h = refl
    list_codes (suc i) h =
        rw (map-append (code_at cost ps xs) (child_list i), list_codes i (omega arith), map_branches (code_at cost ps xs) f (to (B i) i) (to 1 i))
        (ap (children_of f xs bs cs ds i ++◌) (same_branches f _ _ _ _ (rw (is i, zeros i h)) (λ e. rw (ones e i h))))

    all_codes : (m : ℕ) → length ps ≡ m → map (code_at cost ps xs) (child_list (length ps)) ≡ children_of f xs bs cs ds m
    all_codes m e = list_codes (length ps) (omega arith) ∙ ap (children_of f xs bs cs ds) e

-- ---- the start: the empty prefix alone
pub start_rep : Rep 0 ([] ∷ []) (0 ∷ [])
start_rep = record { counted = refl; sized = more refl none; agree = go }
  where
    go : (i j : ℕ) → i < 1 → j < 1 → lex_before (get_or ([] ∷ []) i []) (get_or ([] ∷ []) j []) ≡ leb (place_of (get_or (0 ∷ []) i 0)) (place_of (get_or (0 ∷ []) j 0))
    go zero zero h k = refl
    go zero (suc j) h k = absurd (omega arith)
    go (suc i) zero h k = absurd (omega arith)
    go (suc i) (suc j) h k = absurd (omega arith)

-- ---- the position
module _ (f l : ℕ) (bs cs ds : List ℕ) (s r : Live) (long : length s.code ≡ 33) (few : s.count ≤ 32) where
  abbrev children : List ℕ
  children = sort_by leb (children_of f (entries s) bs cs ds s.count)

  abbrev B : ℕ → ℕ
  B i = get_or bs i 0 % 2

  small : (i : ℕ) → B i ≤ 1
  small i = omega arith

  -- what a list keeps and loses of the children's entries, it keeps and loses of the children
  pub position : Holds r l (take l children) → r.lost ≡ lost_with s.lost (drop l children) → Position f l bs cs ds s r
  position h lost = record { holds = h; keeps = keeps }
    where
      keeps : (cost rule : List ℕ → ℕ) (n : ℕ) (ps : List (List ℕ)) → Rep n ps (entries s) → BitsAre f rule bs ps → CostsAre cost B cs ps
          → (f ≡ 0 → CostsAre cost (λ i. 1) ds ps) → Kept cost (n + 1) l ps (sort_by (cheaper cost) (families (λ w. continued f (rule w) w) ps)) s r
      keeps cost rule n ps R own firsts ones =
          let e : length ps ≡ s.count = sym R.counted ∙ entries_count s long (omega arith) in
          let p = all_prefixes f B small rule ps own in
          let q = all_codes f B small cost ps (entries s) bs cs ds (λ i. refl) firsts ones s.count e in
          let o = sorted cost n ps (entries s) R (omega arith) (child_list f B small (length ps)) (list_good f B small (length ps) (length ps) (omega arith)) (list_order f B small (length ps)) in
          let rest : map cost_of (drop l children) ≡ map cost (drop l (sort_by (cheaper cost) (families (λ w. continued f (rule w) w) ps)))
          = rw (← p, ← q) (rest_costs cost n ps (entries s) R (omega arith) l o) in
          record {
            step = rw (h.are, ← p, ← q) (best_step cost n ps (entries s) R (omega arith) l o);
            lost = lost ∙ ap (least_of s.lost) rest;
          }
