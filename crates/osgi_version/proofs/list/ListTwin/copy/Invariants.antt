use Rattle.std.proofs.Common.{◌≡◌, take}
use Rattle.osgi_version.proofs.list.ListTwin.copy.Given as goal

-- what is copied so far is a front of the items
abbrev pub invariant-loop-item : goal.invariant-loop-item
invariant-loop-item g l = l.copied ≡ take l.item-index l.items
