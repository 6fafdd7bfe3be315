mod IcmpRules
