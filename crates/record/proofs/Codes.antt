-- Kinds and their codes: each kind is read back from its code, and what is proved of each code holds of each byte.
-- Assumes nothing.
use Rattle.std.proofs.Common.{◌≡◌, ℕ, ◌==◌, Bool, true, false, if◌then◌else◌, Result, Ok, Err, refl, sym, subst, eqb, eqb-true}
use Rattle.record.specs.Kind.{code_of, kind_from}
use Rattle.record.specs.declared.kind.Kind.{Kind}
use Rattle.record.specs.declared.kind.Kind.TheVariants.{Primitive, SubByte, Semantic, Named, Qualified, Generic, OverOne, OverTwo, InlineBits, Literal, Reference, Operation, Logic, Comparison, Range, Operand, Message, Union, Newtype, Alias, Constant, Ambiguous, TypeParameter, Field, Tombstone, Variant, Annotation, Argument, TombstoneArgument, LoweredAlias, LoweredConstant, LoweredMessage, LoweredUnion, LoweredVariant, LoweredField, Encoding, LoweredTombstone, LoweredNewtype, Diagnostic}
use Rattle.record.specs.declared.kind.UnknownKind.{UnknownKind}

-- a kind's code is read as that kind
pub code_of_kind : (k : Kind) → kind_from (code_of k) ≡ Ok k
unfolding kind_from
code_of_kind Primitive = refl
code_of_kind SubByte = refl
code_of_kind Semantic = refl
code_of_kind Named = refl
code_of_kind Qualified = refl
code_of_kind Generic = refl
code_of_kind OverOne = refl
code_of_kind OverTwo = refl
code_of_kind InlineBits = refl
code_of_kind Literal = refl
code_of_kind Reference = refl
code_of_kind Operation = refl
code_of_kind Logic = refl
code_of_kind Comparison = refl
code_of_kind Range = refl
code_of_kind Operand = refl
code_of_kind Message = refl
code_of_kind Union = refl
code_of_kind Newtype = refl
code_of_kind Alias = refl
code_of_kind Constant = refl
code_of_kind Ambiguous = refl
code_of_kind TypeParameter = refl
code_of_kind Field = refl
code_of_kind Tombstone = refl
code_of_kind Variant = refl
code_of_kind Annotation = refl
code_of_kind Argument = refl
code_of_kind TombstoneArgument = refl
code_of_kind LoweredAlias = refl
code_of_kind LoweredConstant = refl
code_of_kind LoweredMessage = refl
code_of_kind LoweredUnion = refl
code_of_kind LoweredVariant = refl
code_of_kind LoweredField = refl
code_of_kind Encoding = refl
code_of_kind LoweredTombstone = refl
code_of_kind LoweredNewtype = refl
code_of_kind Diagnostic = refl

-- one step down the cases of `kind_from`
here_or_later :
    (n : ℕ) (x k : Kind) (later : Result Kind UnknownKind) →
    (later ≡ Ok k → n ≡ code_of k) →
    (if n == code_of x then Ok x else later) ≡ Ok k → n ≡ code_of k
here_or_later n x k later more = go (n == code_of x) refl
  where
    go : (b : Bool) → n == code_of x ≡ b → (if b then Ok x else later) ≡ Ok k → n ≡ code_of k
    go true t h = let same : x ≡ k = cc in subst (λ (y : Kind). n ≡ code_of y) same (eqb-true n (code_of x) t)
    go false t h = more h

-- what is read as a kind is its code
pub kind_is : (n : ℕ) (k : Kind) → kind_from n ≡ Ok k → n ≡ code_of k
unfolding kind_from
kind_is n k =
    here_or_later n Primitive k _
    (here_or_later n SubByte k _
    (here_or_later n Semantic k _
    (here_or_later n Named k _
    (here_or_later n Qualified k _
    (here_or_later n Generic k _
    (here_or_later n OverOne k _
    (here_or_later n OverTwo k _
    (here_or_later n InlineBits k _
    (here_or_later n Literal k _
    (here_or_later n Reference k _
    (here_or_later n Operation k _
    (here_or_later n Logic k _
    (here_or_later n Comparison k _
    (here_or_later n Range k _
    (here_or_later n Operand k _
    (here_or_later n Message k _
    (here_or_later n Union k _
    (here_or_later n Newtype k _
    (here_or_later n Alias k _
    (here_or_later n Constant k _
    (here_or_later n Ambiguous k _
    (here_or_later n TypeParameter k _
    (here_or_later n Field k _
    (here_or_later n Tombstone k _
    (here_or_later n Variant k _
    (here_or_later n Annotation k _
    (here_or_later n Argument k _
    (here_or_later n TombstoneArgument k _
    (here_or_later n LoweredAlias k _
    (here_or_later n LoweredConstant k _
    (here_or_later n LoweredMessage k _
    (here_or_later n LoweredUnion k _
    (here_or_later n LoweredVariant k _
    (here_or_later n LoweredField k _
    (here_or_later n Encoding k _
    (here_or_later n LoweredTombstone k _
    (here_or_later n LoweredNewtype k _
    (here_or_later n Diagnostic k _
    (λ h. cc)))))))))))))))))))))))))))))))))))))))

-- what holds of each kind's code, and of each byte that stands for none, holds of every number
pub by_kind :
    (P : ℕ → Type 0) →
    ((k : Kind) → P (code_of k)) → ((n : ℕ) (e : UnknownKind) → kind_from n ≡ Err e → P n) → (n : ℕ) → P n
by_kind P known unknown n = go (kind_from n) refl
  where
    go : (r : Result Kind UnknownKind) → kind_from n ≡ r → P n
    go (Ok k) is = subst P (sym (kind_is n k is)) (known k)
    go (Err e) is = unknown n e is

-- a byte that stands for no kind is no kind's code
pub unknown_is_none : (n : ℕ) (e : UnknownKind) → kind_from n ≡ Err e → (k : Kind) → n == code_of k ≡ false
unknown_is_none n e is k = go (n == code_of k) refl
  where
    go : (b : Bool) → n == code_of k ≡ b → b ≡ false
    go false t = refl
    go true t =
        let known : kind_from n ≡ Ok k =
        subst (λ (m : ℕ). kind_from m ≡ Ok k) (sym (eqb-true n (code_of k) t)) (code_of_kind k) in
        cc

pub unknown_eqb : (n : ℕ) (e : UnknownKind) → kind_from n ≡ Err e → (k : Kind) → eqb n (code_of k) ≡ false
unknown_eqb = unknown_is_none
