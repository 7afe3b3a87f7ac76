-- What a write to a list of connections and a push to it mean.
use Rattle.std.proofs.Common.{Vec, Global, ◌≡◌, ℕ, ◌<◌, ◌≤◌, Bool, true, false, List, [], ◌∷◌, ◌++◌, length, get_or, map, refl, sym, ◌∙◌, ap, arith}
use Rattle.std.specs.Prelude.{Option, Some, None, slice_set}
use Rattle.std.specs.Option.{option_map, unwrap_or}
use Rattle.std.specs.FinMap as fin
use Rattle.std.specs.FinSet as set
use Rattle.std.proofs.lemmas.List.{map-set, map-append, length-map, length-set, length-append, get_or-map, get_or_past}
use Rattle.std.proofs.Math.Seq.{map-set_same}
use Rattle.cs_base.specs.outside.ScriptParts.{Connected, connected_of, behind_event, adds, breaks_off, bytes_on, sent_of, places_from, values_from}
use Rattle.cs_base.specs.declared.outside.hub.Event.TheVariants.{Opened, Ended}
use Rattle.cs_base.specs.declared.outside.connections.Connection.{Connection}
use Rattle.cs_base.proofs.ConnectionLists.{contains-places, get-values, set_true, set_false, remove_behind, push_true, push_false, set_value, push_none}

-- connections with the same parts are seen alike
alike : (x y : Connected) → x.opened ≡ y.opened → x.live ≡ y.live → x.sent ≡ y.sent → x.broken ≡ y.broken → x ≡ y
alike x y o l s b = λ i. record { opened = o i; live = l i; sent = s i; broken = b i }

abbrev lives : List Connection → List Bool
lives xs = map (λ x. x.live) xs

abbrev breaks : List Connection → List Bool
breaks xs = map (λ x. x.broken) xs

within : {Y : Type 0} (f : Connection → Y) (xs : List Connection) (i : ℕ) → i < length xs → i < length (map f xs)
within f xs i h = omega (arith, length-map xs f)

pub is_live : (xs : List Connection) (c : ℕ) (d : Connection) → c < length xs → (get_or xs c d).live ≡ set.contains (connected_of xs).live c
is_live xs c d h = sym (contains-places (lives xs) c ∙ get_or-map (λ x. x.live) xs c d false h)

pub isnt_live : (xs : List Connection) (c : ℕ) → length xs ≤ c → set.contains (connected_of xs).live c ≡ false
isnt_live xs c h = contains-places (lives xs) c ∙ get_or_past (lives xs) c false (omega (arith, length-map xs (λ (x : Connection). x.live)))

pub isnt_broken : (xs : List Connection) (c : ℕ) → length xs ≤ c → set.contains (connected_of xs).broken c ≡ false
isnt_broken xs c h = contains-places (breaks xs) c ∙ get_or_past (breaks xs) c false (omega (arith, length-map xs (λ (x : Connection). x.broken)))

pub sent_is : (xs : List Connection) (c : ℕ) (d : Connection) → c < length xs → unwrap_or (sent_of (get_or xs c d)) [] ≡ bytes_on (connected_of xs) c
sent_is xs c d h = sym (ap (λ o. unwrap_or o []) (get-values (map sent_of xs) c ∙ get_or-map sent_of xs c d None h))

pub nothing_sent : (xs : List Connection) (c : ℕ) → length xs ≤ c → [] ≡ bytes_on (connected_of xs) c
nothing_sent xs c h = sym (ap (λ o. unwrap_or o []) (get-values (map sent_of xs) c ∙ get_or_past (map sent_of xs) c None (omega (arith, length-map xs sent_of))))

pub opened_next : (xs : List Connection) (y : Connection) → y.live ≡ true → y.broken ≡ false → sent_of y ≡ None → connected_of (xs ++ y ∷ []) ≡ behind_event (Opened (length xs)) (connected_of xs)
opened_next xs y l b s = alike _ _
    (length-append xs (y ∷ []))
    (ap (places_from 0) (map-append (λ x. x.live) xs (y ∷ []) ∙ ap (λ v. lives xs ++ v ∷ []) l) ∙ push_true (lives xs) ∙ ap (set.insert (places_from 0 (lives xs))) (length-map xs (λ (x : Connection). x.live)))
    (ap (values_from 0) (map-append sent_of xs (y ∷ []) ∙ ap (λ v. map sent_of xs ++ v ∷ []) s) ∙ push_none (map sent_of xs))
    (ap (places_from 0) (map-append (λ x. x.broken) xs (y ∷ []) ∙ ap (λ v. breaks xs ++ v ∷ []) b) ∙ push_false (breaks xs))

-- y is written where x stands
module _ (xs : List Connection) (c : ℕ) (x y : Connection) (h : c < length xs) (is : x ≡ get_or xs c x) where
  same_live : y.live ≡ x.live → places_from 0 (lives (slice_set xs c y)) ≡ places_from 0 (lives xs)
  same_live l = ap (places_from 0) (map-set_same (λ x. x.live) xs c y x (l ∙ ap (λ z. z.live) is))

  same_broken : y.broken ≡ x.broken → places_from 0 (breaks (slice_set xs c y)) ≡ places_from 0 (breaks xs)
  same_broken b = ap (places_from 0) (map-set_same (λ x. x.broken) xs c y x (b ∙ ap (λ z. z.broken) is))

  -- bytes were added behind what was sent there
  more_sent : (bytes : List ℕ) → sent_of y ≡ Some (unwrap_or (sent_of x) [] ++ bytes) → values_from 0 (map sent_of (slice_set xs c y)) ≡ fin.insert (values_from 0 (map sent_of xs)) c (bytes_on (connected_of xs) c ++ bytes)
  more_sent bytes s =
      let told : unwrap_or (sent_of x) [] ≡ bytes_on (connected_of xs) c = ap (λ z. unwrap_or (sent_of z) []) is ∙ sent_is xs c x h in
      ap (values_from 0) (map-set sent_of xs c y ∙ ap (slice_set (map sent_of xs) c) (s ∙ ap (λ v. Some (v ++ bytes)) told)) ∙ set_value (map sent_of xs) c _ (within sent_of xs c h)

  pub ended : y.live ≡ false → y.broken ≡ x.broken → sent_of y ≡ sent_of x → connected_of (slice_set xs c y) ≡ behind_event (Ended c) (connected_of xs)
  ended l b s = alike _ _
      (length-set xs c y)
      (ap (places_from 0) (map-set (λ x. x.live) xs c y ∙ ap (slice_set (lives xs) c) l) ∙ set_false (lives xs) c (within (λ x. x.live) xs c h))
      (ap (values_from 0) (map-set_same sent_of xs c y x (s ∙ ap sent_of is)))
      (same_broken b)

  pub added : (bytes : List ℕ) → y.live ≡ x.live → y.broken ≡ x.broken → sent_of y ≡ Some (unwrap_or (sent_of x) [] ++ bytes) → connected_of (slice_set xs c y) ≡ adds c bytes (connected_of xs)
  added bytes l b s = alike _ _ (length-set xs c y) (same_live l) (more_sent bytes s) (same_broken b)

  pub broke : y.live ≡ x.live → y.broken ≡ true → sent_of y ≡ Some (unwrap_or (sent_of x) [] ++ []) → connected_of (slice_set xs c y) ≡ breaks_off c (connected_of xs)
  broke l b s = alike _ _
      (length-set xs c y)
      (same_live l)
      (more_sent [] s)
      (ap (places_from 0) (map-set (λ x. x.broken) xs c y ∙ ap (slice_set (breaks xs) c) b) ∙ set_true (breaks xs) c (within (λ x. x.broken) xs c h))

pub ended_none : (xs : List Connection) (c : ℕ) → length xs ≤ c → connected_of xs ≡ behind_event (Ended c) (connected_of xs)
ended_none xs c h = alike _ _ refl (remove_behind (lives xs) c (omega (arith, length-map xs (λ (x : Connection). x.live)))) refl refl

-- what was sent is taken over, or begins with no bytes
pub taken_over : (o : Option (Vec ℕ Global)) (w v : Vec ℕ Global) → w.items ≡ [] → v ≡ unwrap_or o w → v.items ≡ unwrap_or (option_map (λ u. u.items) o) []
taken_over None w v e is = ap (λ u. u.items) is ∙ e
taken_over (Some u) w v e is = ap (λ u. u.items) is
