mod TextParts
