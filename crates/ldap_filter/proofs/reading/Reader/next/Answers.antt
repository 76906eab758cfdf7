use Rattle.ldap_filter.specs.FilterScan.{part_in}
use Rattle.ldap_filter.specs.FilterReading.{frames_in}
use Rattle.ldap_filter.proofs.FilterPlaces.{item_known}
use Rattle.ldap_filter.proofs.reading.Reader.next.Goals as goal

pub end-requires-clause-attr_utf8 : goal.end-requires-clause-attr_utf8
end-requires-clause-attr_utf8 c =
    (item_known c.args.text.now c.args.at (part_in c.args.text.now c.args.at c.args.self.scan) (frames_in c.args.self) c.in-End.operator _ _ c.requires.inside c.requires.utf8 c.requires.read.read c.in-End.ensures.turns).0

pub end-requires-clause-value_utf8 : goal.end-requires-clause-value_utf8
end-requires-clause-value_utf8 c =
    (item_known c.args.text.now c.args.at (part_in c.args.text.now c.args.at c.args.self.scan) (frames_in c.args.self) c.in-End.operator _ _ c.requires.inside c.requires.utf8 c.requires.read.read c.in-End.ensures.turns).1

pub end-requires-clause-whole : goal.end-requires-clause-whole
end-requires-clause-whole c =
    (item_known c.args.text.now c.args.at (part_in c.args.text.now c.args.at c.args.self.scan) (frames_in c.args.self) c.in-End.operator _ _ c.requires.inside c.requires.utf8 c.requires.read.read c.in-End.ensures.turns).2
