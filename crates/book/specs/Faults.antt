-- Causes 4 to 8: what is wrong with record n, told from the records alone. Words in quotation marks are rules of
-- docs/FORMAT.md in brief.
-- Assumes nothing.
use Rattle.std.specs.Prelude.{ℕ, zero, suc, Bool, true, false, cond, not, ◌&&◌, ◌||◌, List, [], ◌∷◌, reverse, leb, ltb, eqb, take, get_or}
use Rattle.std.proofs.Math.Option.{Option, some, none}
use Rattle.record.specs.declared.Record.{Record}
use Rattle.book.specs.Lists.{any, find, keep, up_to}
use Rattle.book.specs.Shape.{Child, well_shaped, children, is_of}

-- record n, all fields 0 where there is none
unfoldable pub record_of : List Record → ℕ → Record
record_of rs n =
    get_or rs n (record { kind = 0; sub = 0; a = 0; b = 0; c = 0; v = 0; span = record { offset = 0; len = 0 } })

-- cause 4: "unknown kind, or a sub or field outside its values"
unfoldable pub shape_fault : List Record → ℕ → Bool
shape_fault rs n = not (well_shaped (record_of rs n))

-- the record has k as a child
unfoldable pub uses : ℕ → Record → Bool
uses k r = any (λ c. eqb c.number k) (children r)

-- some record before n has k as a child
unfoldable pub used_before : List Record → ℕ → ℕ → Bool
used_before rs n k = any (λ m. uses k (record_of rs m)) (up_to n)

-- a child comes again among the ones behind it
unfoldable pub used_twice : List Child → Bool
used_twice [] = false
used_twice (x ∷ xs) = any (λ c. eqb c.number x.number) xs || used_twice xs

-- a child of record n that is "not earlier, of the wrong group, or used before"
abbrev pub is_wrong : List Record → ℕ → Child → Bool
is_wrong rs n c = leb n c.number || not (is_of c.group (record_of rs c.number)) || used_before rs n c.number

-- cause 5: "child not earlier, of the wrong group, or used before, also by the same record"
unfoldable pub child_fault : List Record → ℕ → Bool
child_fault rs n =
    let cs : List Child = children (record_of rs n) in
    any (is_wrong rs n) cs || used_twice cs

-- the records before n that the follow rule looks at, latest first: it "passes over kinds 1-16"
unfoldable pub before : List Record → ℕ → List Record
before rs n = reverse (keep (λ r. ltb 16 r.kind) (take n rs))

-- the record is of kind k
abbrev pub is_kind : ℕ → Record → Bool
is_kind k r = eqb r.kind k

-- "Declarations": 20 to 25
abbrev pub is_declaration : Record → Bool
is_declaration r = leb 20 r.kind && leb r.kind 25

-- "32 tombstone (sub 1 belongs to the union itself, [..])"
abbrev pub is_union_tombstone : Record → Bool
is_union_tombstone r = is_kind 32 r && eqb r.sub 1

-- the first of some records that passes a test is of kind k
unfoldable pub first_is : (Record → Bool) → ℕ → List Record → Bool
first_is test k rs = any (is_kind k) (first_of (find test rs))
  where
    first_of : Option Record → List Record
    first_of none = []
    first_of (some r) = r ∷ []

-- the record before is of one of some kinds
abbrev pub follows : List ℕ → List Record → Bool
follows kinds bs = any (λ k. first_is (λ r. true) k bs) kinds

-- "The latest declaration is the one meant"
abbrev pub under : ℕ → List Record → Bool
under k bs = first_is is_declaration k bs

-- "a variant before them and no 32 sub 1 since the last one"
abbrev pub variant_open : List Record → Bool
variant_open bs = first_is (λ r. is_declaration r || is_kind 33 r || is_union_tombstone r) 33 bs

-- "need a message, or a union with a variant before them and no 32 sub 1 since the last one"
abbrev pub fields_go_here : List Record → Bool
fields_go_here bs = under 20 bs || under 21 bs && variant_open bs

-- the record may stand behind those before it: one line for each kind that cannot stand anywhere
unfoldable pub may_follow : Record → List Record → Bool
may_follow r bs =
    (not (is_kind 30 r) || follows (23 ∷ 30 ∷ []) bs)
    && (not (is_kind 34 r) || follows (20 ∷ 31 ∷ 34 ∷ 35 ∷ []) bs)
    && (not (is_kind 35 r) || follows (34 ∷ 35 ∷ []) bs)
    && (not (is_kind 36 r) || follows (32 ∷ 36 ∷ []) bs)
    && (not (is_kind 31 r || is_kind 32 r && eqb r.sub 0) || fields_go_here bs)
    && (not (is_union_tombstone r || is_kind 33 r) || under 21 bs)

-- cause 6: "follow rule"
unfoldable pub follow_fault : List Record → ℕ → Bool
follow_fault rs n = not (may_follow (record_of rs n) (before rs n))

-- "20-23 share one set, 24 and 25 have one each": the set, 0 for what declares no name
unfoldable pub name_set : Record → ℕ
name_set r = cond (leb 20 r.kind && leb r.kind 23) 1 (cond (is_kind 24 r) 2 (cond (is_kind 25 r) 3 0))

-- cause 7: "name declared again"
unfoldable pub name_fault : List Record → ℕ → Bool
name_fault rs n =
    let r : Record = record_of rs n in
    not (eqb (name_set r) 0) && any (λ x. eqb (name_set x) (name_set r) && eqb x.a r.a) (take n rs)

-- the tree at n has more than d levels: "a leaf has depth 1", so every tree has more than 0
unfoldable pub deeper_than : ℕ → List Record → ℕ → Bool
deeper_than zero rs n = true
deeper_than (suc d) rs n = any (λ c. deeper_than d rs c.number) (children (record_of rs n))

-- cause 8: "tree deeper than 64"; "kinds 20 up add none"
unfoldable pub depth_fault : List Record → ℕ → Bool
depth_fault rs n =
    let r : Record = record_of rs n in
    cond (ltb r.kind 20) (deeper_than 64 rs n) (any (λ c. deeper_than 64 rs c.number) (children r))
