-- The type that a record is: the code's, by its kind, and the definitions', by the kind's number.
-- Assumes nothing.
use Rattle.std.proofs.Common.{◌≡◌, ℕ, Bool, true, false, cond, refl, sym, subst, Ok, Err, Result, eqb}
use Rattle.record.specs.declared.kind.Kind.{Kind}
use Rattle.record.specs.declared.kind.Kind.TheVariants as kinds
use Rattle.record.specs.declared.kind.UnknownKind.{UnknownKind}
use Rattle.record.specs.declared.Record.{Record}
use Rattle.record.specs.Kind.{code_of, kind_from}
use Rattle.record.specs.Made.{bare_record}
use Rattle.record.proofs.Codes.{code_of_kind, by_kind, unknown_eqb}
use Rattle.book.specs.Faults.{is_kind}
use Rattle.types.specs.declared.lowering.TypeExpr as exprs
use Rattle.types.specs.declared.lowering.TypeExpr.TheVariants as expr
use Rattle.types.specs.Resolved.{ResolvedType, primitive, sub_byte, semantic, inline_bits}
use Rattle.types.specs.Step.{emit_type}
use Rattle.types.specs.Records.{below, type_records}
use Rattle.types.specs.Resolve.{TypeExpr, plain, name, qualified, generic, one, two, type_expr, is_parameter}
use Rattle.types.specs.Code as code
use Rattle.types.specs.Walk as walk
use Rattle.types.proofs.Writes.{Leaf}

-- a type record, here and there
pub data Same : exprs.TypeExpr → TypeExpr → Type 0 where
  same_plain : (kind : Kind) (sub a : ℕ) (t : ResolvedType) → Leaf (bare_record kind sub a 0 0) t
      → Same (expr.Plain kind sub a) (plain t)
  same_name : (n : ℕ) → Same (expr.Name n) (name n)
  same_qualified : (space n : ℕ) → Same (expr.Qualified space n) (qualified space n)
  same_generic : (n a : ℕ) → Same (expr.Generic n a) (generic n a)
  same_one : (sub size a : ℕ) → Same (expr.One sub size a) (one sub size a)
  same_two : (sub a b : ℕ) → Same (expr.Two sub a b) (two sub a b)

-- the type by the number of a kind
abbrev by_code : Record → ℕ → TypeExpr
by_code r n =
    cond (eqb n 1) (plain (primitive r.sub))
    (cond (eqb n 2) (plain (sub_byte r.sub r.a))
    (cond (eqb n 3) (plain (semantic r.sub))
    (cond (eqb n 4) (name r.a)
    (cond (eqb n 5) (qualified r.a r.b)
    (cond (eqb n 6) (generic r.a r.b)
    (cond (eqb n 7) (one r.sub r.v r.a)
    (cond (eqb n 8) (two r.sub r.a r.b)
    (plain (inline_bits r.a)))))))))

by_code_is : (r : Record) → type_expr r ≡ by_code r r.kind
unfolding type_expr
by_code_is r = refl

bits : (r : Record) → Same (expr.Plain kinds.InlineBits 0 r.a) (plain (inline_bits r.a))
unfolding below type_records emit_type
bits r = same_plain _ _ _ _ (record { low = refl; only = λ n. refl; emits = refl })

same_kind : (r : Record) (k : Kind) → Same (code.type_expr r (Ok k)) (by_code r (code_of k))
unfolding below type_records emit_type
same_kind r kinds.Primitive = same_plain _ _ _ _ (record { low = refl; only = λ n. refl; emits = refl })
same_kind r kinds.SubByte = same_plain _ _ _ _ (record { low = refl; only = λ n. refl; emits = refl })
same_kind r kinds.Semantic = same_plain _ _ _ _ (record { low = refl; only = λ n. refl; emits = refl })
same_kind r kinds.Named = same_name r.a
same_kind r kinds.Qualified = same_qualified r.a r.b
same_kind r kinds.Generic = same_generic r.a r.b
same_kind r kinds.OverOne = same_one r.sub r.v r.a
same_kind r kinds.OverTwo = same_two r.sub r.a r.b
same_kind r kind = bits r

no_kind : (r : Record) (n : ℕ) (e : UnknownKind) → kind_from n ≡ Err e → Same (code.type_expr r (Err e)) (by_code r n)
no_kind r n e is =
    rw (
      unknown_eqb n e is kinds.Primitive,
      unknown_eqb n e is kinds.SubByte,
      unknown_eqb n e is kinds.Semantic,
      unknown_eqb n e is kinds.Named,
      unknown_eqb n e is kinds.Qualified,
      unknown_eqb n e is kinds.Generic,
      unknown_eqb n e is kinds.OverOne,
      unknown_eqb n e is kinds.OverTwo,
    )
    (bits r)

same_code : (r : Record) (n : ℕ) → Same (code.type_expr r (kind_from n)) (by_code r n)
same_code r n =
    by_kind (λ m. Same (code.type_expr r (kind_from m)) (by_code r m))
    (λ k. subst (λ (x : Result Kind UnknownKind). Same (code.type_expr r x) (by_code r (code_of k)))
    (sym (code_of_kind k)) (same_kind r k))
    (λ m e is. subst (λ (x : Result Kind UnknownKind). Same (code.type_expr r x) (by_code r m)) (sym is)
    (no_kind r m e is))
    n

pub same_type : (r : Record) → Same (code.type_expr r (kind_from r.kind)) (type_expr r)
same_type r = subst (λ (x : TypeExpr). Same (code.type_expr r (kind_from r.kind)) x) (sym (by_code_is r))
    (same_code r r.kind)

-- a name is a record of kind 4
pub name_of : (r : Record) (n : ℕ) → type_expr r ≡ name n → (r.a ≡ n) × (is_kind 4 r ≡ true)
unfolding type_expr
name_of r n e = go (is_kind 1 r) (is_kind 2 r) (is_kind 3 r) (is_kind 4 r) (is_kind 5 r) (is_kind 6 r) (is_kind 7 r)
    (is_kind 8 r) e
  where
    go : (a b c d e f g h : Bool)
        → cond a (plain (primitive r.sub)) (cond b (plain (sub_byte r.sub r.a))
        (cond c (plain (semantic r.sub)) (cond d (name r.a)
        (cond e (qualified r.a r.b) (cond f (generic r.a r.b)
        (cond g (one r.sub r.v r.a) (cond h (two r.sub r.a r.b) (plain (inline_bits r.a))))))))) ≡ name n
        → (r.a ≡ n) × (d ≡ true)
    go true b c d e f g h q = cc
    go false true c d e f g h q = cc
    go false false true d e f g h q = cc
    go false false false true e f g h q = (cc, refl)
    go false false false false true f g h q = cc
    go false false false false false true g h q = cc
    go false false false false false false true h q = cc
    go false false false false false false false true q = cc
    go false false false false false false false false q = cc

-- a qualified name is one of kind 5
pub qualified_of : (r : Record) (space n : ℕ) → type_expr r ≡ qualified space n → (r.a ≡ space) × (r.b ≡ n) × (is_kind 5 r ≡ true)
unfolding type_expr
qualified_of r space n e = go (is_kind 1 r) (is_kind 2 r) (is_kind 3 r) (is_kind 4 r) (is_kind 5 r) (is_kind 6 r) (is_kind 7 r)
    (is_kind 8 r) e
  where
    go : (a b c d e f g h : Bool)
        → cond a (plain (primitive r.sub)) (cond b (plain (sub_byte r.sub r.a))
        (cond c (plain (semantic r.sub)) (cond d (name r.a)
        (cond e (qualified r.a r.b) (cond f (generic r.a r.b)
        (cond g (one r.sub r.v r.a) (cond h (two r.sub r.a r.b) (plain (inline_bits r.a))))))))) ≡ qualified space n
        → (r.a ≡ space) × (r.b ≡ n) × (e ≡ true)
    go true b c d e f g h q = cc
    go false true c d e f g h q = cc
    go false false true d e f g h q = cc
    go false false false true e f g h q = cc
    go false false false false true f g h q = (cc, cc, refl)
    go false false false false false true g h q = cc
    go false false false false false false true h q = cc
    go false false false false false false false true q = cc
    go false false false false false false false false q = cc

pub same_parameter : (p x : ℕ) (a : exprs.TypeExpr) (b : TypeExpr) → Same a b
    → walk.is_parameter p a ≡ is_parameter (record { parameter = p; argument = x }) b
same_parameter p x _ _ (same_plain kind sub i t l) = refl
same_parameter p x _ _ (same_name n) = refl
same_parameter p x _ _ (same_qualified space n) = refl
same_parameter p x _ _ (same_generic n a) = refl
same_parameter p x _ _ (same_one sub size a) = refl
same_parameter p x _ _ (same_two sub a b) = refl
