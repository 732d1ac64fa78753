-- Wishes as numbers, from least to most.
use Rattle.std.proofs.Common.{◌≡◌, ℕ, ◌<◌, ◌≤◌, Bool, true, false, cond, ltb, ltb-true, lt-ltb, refl, arith}
use Rattle.nt_subs.specs.Index.{count, strongest, is_asked}
use Rattle.nt_subs.specs.Wishes.{greater, strength}
use Rattle.nt_subs.specs.declared.counts.Counts.{Counts}
use Rattle.nt_subs.specs.declared.sub.Options.{Options}
use Rattle.nt_subs.specs.declared.wish.Wanted.{Wanted}
use Rattle.nt_subs.specs.declared.wish.Wanted.TheVariants.{No, TopicOnly, Newest, All}

abbrev pub rank : Wanted → ℕ
rank No = 0
rank TopicOnly = 1
rank Newest = 2
rank All = 3

pub rank-same : (a b : Wanted) → rank a ≤ rank b → rank b ≤ rank a → a ≡ b
rank-same No No h k = refl
rank-same No TopicOnly h k = absurd (omega arith)
rank-same No Newest h k = absurd (omega arith)
rank-same No All h k = absurd (omega arith)
rank-same TopicOnly No h k = absurd (omega arith)
rank-same TopicOnly TopicOnly h k = refl
rank-same TopicOnly Newest h k = absurd (omega arith)
rank-same TopicOnly All h k = absurd (omega arith)
rank-same Newest No h k = absurd (omega arith)
rank-same Newest TopicOnly h k = absurd (omega arith)
rank-same Newest Newest h k = refl
rank-same Newest All h k = absurd (omega arith)
rank-same All No h k = absurd (omega arith)
rank-same All TopicOnly h k = absurd (omega arith)
rank-same All Newest h k = absurd (omega arith)
rank-same All All h k = refl

-- the greater of two is at least each
pub greater-left : (a b : Wanted) → rank a ≤ rank (greater a b)
greater-left No b = omega arith
greater-left TopicOnly No = omega arith
greater-left TopicOnly TopicOnly = omega arith
greater-left TopicOnly Newest = omega arith
greater-left TopicOnly All = omega arith
greater-left Newest No = omega arith
greater-left Newest TopicOnly = omega arith
greater-left Newest Newest = omega arith
greater-left Newest All = omega arith
greater-left All b = omega arith

pub greater-right : (a b : Wanted) → rank b ≤ rank (greater a b)
greater-right No b = omega arith
greater-right TopicOnly No = omega arith
greater-right TopicOnly TopicOnly = omega arith
greater-right TopicOnly Newest = omega arith
greater-right TopicOnly All = omega arith
greater-right Newest No = omega arith
greater-right Newest TopicOnly = omega arith
greater-right Newest Newest = omega arith
greater-right Newest All = omega arith
greater-right All No = omega arith
greater-right All TopicOnly = omega arith
greater-right All Newest = omega arith
greater-right All All = omega arith

-- and at most what is at least both
pub greater-least : (a b : Wanted) (n : ℕ) → rank a ≤ n → rank b ≤ n → rank (greater a b) ≤ n
greater-least No b n h k = k
greater-least TopicOnly No n h k = h
greater-least TopicOnly TopicOnly n h k = k
greater-least TopicOnly Newest n h k = k
greater-least TopicOnly All n h k = k
greater-least Newest No n h k = h
greater-least Newest TopicOnly n h k = h
greater-least Newest Newest n h k = h
greater-least Newest All n h k = k
greater-least All b n h k = h

pub greater-no : (a : Wanted) → greater a No ≡ a
greater-no No = refl
greater-no TopicOnly = refl
greater-no Newest = refl
greater-no All = refl

pub greater-moved : (a b c : Wanted) → greater (greater a b) c ≡ greater a (greater b c)
greater-moved No b c = refl
greater-moved TopicOnly No c = refl
greater-moved TopicOnly TopicOnly No = refl
greater-moved TopicOnly TopicOnly TopicOnly = refl
greater-moved TopicOnly TopicOnly Newest = refl
greater-moved TopicOnly TopicOnly All = refl
greater-moved TopicOnly Newest No = refl
greater-moved TopicOnly Newest TopicOnly = refl
greater-moved TopicOnly Newest Newest = refl
greater-moved TopicOnly Newest All = refl
greater-moved TopicOnly All c = refl
greater-moved Newest No c = refl
greater-moved Newest TopicOnly No = refl
greater-moved Newest TopicOnly TopicOnly = refl
greater-moved Newest TopicOnly Newest = refl
greater-moved Newest TopicOnly All = refl
greater-moved Newest Newest No = refl
greater-moved Newest Newest TopicOnly = refl
greater-moved Newest Newest Newest = refl
greater-moved Newest Newest All = refl
greater-moved Newest All c = refl
greater-moved All b c = refl

-- ---- the strongest of counts

-- is at least each wish that is counted
pub strongest-reached : (w : Wanted) (c : Counts) → 0 < count w c → rank w ≤ rank (strongest c)
strongest-reached No c h = omega arith
strongest-reached TopicOnly c h =
    by (ltb 0 c.all) (ltb 0 c.newest)
  where
    by : (a n : Bool) → 1 ≤ rank (cond a All (cond n Newest (cond (ltb 0 c.topic_only) TopicOnly No)))
    by true n = omega arith
    by false true = omega arith
    by false false = rw (lt-ltb 0 c.topic_only h) (omega arith)
strongest-reached Newest c h = by (ltb 0 c.all)
  where
    by : (a : Bool) → 2 ≤ rank (cond a All (cond (ltb 0 c.newest) Newest (cond (ltb 0 c.topic_only) TopicOnly No)))
    by true = omega arith
    by false = rw (lt-ltb 0 c.newest h) (omega arith)
strongest-reached All c h = rw (lt-ltb 0 c.all h) (omega arith)

-- and at most what is at least all that are counted
pub strongest-least : (c : Counts) (r : ℕ) → ((w : Wanted) → 0 < count w c → rank w ≤ r) → rank (strongest c) ≤ r
strongest-least c r all = by (ltb 0 c.all) (ltb 0 c.newest) (ltb 0 c.topic_only) refl refl refl
  where
    by : (a n t : Bool) → ltb 0 c.all ≡ a → ltb 0 c.newest ≡ n → ltb 0 c.topic_only ≡ t
        → rank (cond a All (cond n Newest (cond t TopicOnly No))) ≤ r
    by true n t ea en et = all All (ltb-true 0 c.all ea)
    by false true t ea en et = all Newest (ltb-true 0 c.newest en)
    by false false true ea en et = all TopicOnly (ltb-true 0 c.topic_only et)
    by false false false ea en et = omega arith

-- ---- what options ask for

pub asked-same : (w v : Wanted) → is_asked w v ≡ true → w ≡ v
asked-same No v h = absurd (cc)
asked-same TopicOnly No h = absurd (cc)
asked-same TopicOnly TopicOnly h = refl
asked-same TopicOnly Newest h = absurd (cc)
asked-same TopicOnly All h = absurd (cc)
asked-same Newest No h = absurd (cc)
asked-same Newest TopicOnly h = absurd (cc)
asked-same Newest Newest h = refl
asked-same Newest All h = absurd (cc)
asked-same All No h = absurd (cc)
asked-same All TopicOnly h = absurd (cc)
asked-same All Newest h = absurd (cc)
asked-same All All h = refl

pub strength-asked : (o : Options) → is_asked (strength o) (strength o) ≡ true
strength-asked o = by o.topicsonly o.all
  where
    by : (t a : Bool) → is_asked (cond t TopicOnly (cond a All Newest)) (cond t TopicOnly (cond a All Newest)) ≡ true
    by true a = refl
    by false true = refl
    by false false = refl
